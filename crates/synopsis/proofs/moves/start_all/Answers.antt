-- What is answered by hand of the proof of moves::start_all.
use Rattle.std.specs.Prelude.{◌+◌, ◌-◌, ◌<◌, ◌++◌, take, replicate, cond, length}
use Rattle.std.proofs.Common.{◌∙◌, ap, arith}
use Rattle.std.proofs.lemmas.List.{take_all}
use Rattle.tw_rows.specs.Bag.{total}
use Rattle.tw_rows.specs.SameCells.{same_cells}
use Rattle.tw_rows.proofs.Bags.{total-append}
use Rattle.sweep_laws.specs.Queues.{queue_starts}
use Rattle.synopsis.specs.Holding.{since_of}
use Rattle.synopsis.proofs.Telling.{sum_at, net_starts, sum_more, weigh_more, grown_more, once_net}
use Rattle.synopsis.proofs.Ordered.{starts_more}
use Rattle.synopsis.proofs.moves.start_all.Goals as goal

pub loop-moved-preserved : goal.loop-moved-preserved
loop-moved-preserved c =
    let ms = c.args.moves.now in
    let i = c.loop-moved.moved-index in
    let x = c.moved-item.result in
    let old = c.args.held.now in
    let now = c.loop-moved.held in
    let new = c.start_often.new.held in
    let k = c.saturating_sub.ensures in
    let low : i < length ms = omega arith in
    record {
      since = λ q. grown_more (same_cells x.cells q) (sum_at net_starts (take i ms) q) (sum_at net_starts (take (i + 1) ms) q) (x.starts - x.ends) c.args.at (since_of old q) (since_of now q) (since_of new q)
          (c.loop-moved.invariant.since q)
          (c.in_ok-start_often.ensures.since q ∙ ap (λ n. cond (same_cells x.cells q) (since_of now q ++ replicate n c.args.at) (since_of now q)) k)
          (sum_more net_starts ms i x q low c.moved-item.is);
      told = λ w.
          let a = ap (total w) c.in_ok-start_often.ensures.told ∙ total-append w c.loop-moved.answer.items (queue_starts c.args.at c.saturating_sub.result x.cells) in
          let b = ap (λ n. total w (queue_starts c.args.at n x.cells)) k in
          let e = weigh_more (λ m. total w (queue_starts c.args.at (m.starts - m.ends) m.cells)) ms i x low c.moved-item.is in
          let h = c.loop-moved.invariant.told w in
          omega (arith, a, b, e, h);
      order = λ now_low up.
          starts_more c.args.at c.saturating_sub.result x.cells c.loop-moved.answer.items c.start_often.new.answer.items c.in_ok-start_often.ensures.told now_low (c.loop-moved.invariant.order now_low up);
      filled = λ h. c.start_often.ensures.filled (c.loop-moved.invariant.filled h);
    }

pub returns-clause-since : goal.returns-clause-since
returns-clause-since c = λ once q.
    let ms = c.args.moves.now in
    c.loop-moved.invariant.since q
    ∙ ap (λ n. since_of c.args.held.now q ++ replicate n c.args.at) (ap (λ l. sum_at net_starts l q) (take_all c.loop-moved.moved-index ms (let f = c.loop-moved-test.false in omega (arith, f))) ∙ once_net (λ m. m.starts) (λ m. m.ends) ms once q)

pub returns-in_err-start_often-clause-filled : goal.returns-in_err-start_often-clause-filled
returns-in_err-start_often-clause-filled c = λ h. c.start_often.ensures.filled (c.loop-moved.invariant.filled h)

pub returns-clause-order : goal.returns-clause-order
returns-clause-order c = c.loop-moved.invariant.order

pub returns-clause-filled : goal.returns-clause-filled
returns-clause-filled c = c.loop-moved.invariant.filled
