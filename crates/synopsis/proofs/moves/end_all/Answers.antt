-- What is answered by hand of the proof of moves::end_all.
use Rattle.std.specs.Prelude.{◌+◌, ◌-◌, ◌<◌, take, drop, cond, nat_lt, length}
use Rattle.std.proofs.Common.{◌∙◌, ap, arith}
use Rattle.std.proofs.lemmas.List.{take_all}
use Rattle.tw_rows.specs.Bag.{total}
use Rattle.tw_rows.specs.SameCells.{same_cells}
use Rattle.tw_rows.proofs.Bags.{total-append}
use Rattle.edge_history.specs.Order.{failing}
use Rattle.sweep_laws.specs.Queues.{queue_ends}
use Rattle.synopsis.specs.Holding.{since_of}
use Rattle.synopsis.proofs.Telling.{sum_at, net_ends, sum_more, weigh_more, before_zero, dropped_more, once_net}
use Rattle.synopsis.proofs.Ordered.{ends_more, failing_drop}
use Rattle.synopsis.proofs.moves.end_all.Goals as goal

pub loop-moved-preserved : goal.loop-moved-preserved
loop-moved-preserved c =
    let ms = c.args.moves.now in
    let i = c.loop-moved.moved-index in
    let x = c.moved-item.result in
    let old = c.args.held.now in
    let now = c.loop-moved.held in
    let new = c.end_often.new.held in
    let k = c.saturating_sub.ensures in
    let low : i < length ms = omega arith in
    record {
      since = λ q. dropped_more (same_cells x.cells q) (sum_at net_ends (take i ms) q) (sum_at net_ends (take (i + 1) ms) q) (x.ends - x.starts) (since_of old q) (since_of now q) (since_of new q)
          (c.loop-moved.invariant.since q)
          (c.in_ok-end_often.ensures.since q ∙ ap (λ n. cond (same_cells x.cells q) (drop n (since_of now q)) (since_of now q)) k)
          (sum_more net_ends ms i x q low c.moved-item.is);
      told = λ once w.
          let a = ap (total w) c.in_ok-end_often.ensures.told ∙ total-append w c.loop-moved.answer.items (queue_ends c.args.at c.saturating_sub.result x.cells (since_of now x.cells)) in
          let b = ap (λ n. total w (queue_ends c.args.at n x.cells (since_of now x.cells))) k in
          let s = c.loop-moved.invariant.since x.cells ∙ ap (λ n. drop n (since_of old x.cells)) (before_zero net_ends ms i x once low c.moved-item.is) in
          let d = ap (λ l. total w (queue_ends c.args.at (x.ends - x.starts) x.cells l)) s in
          let e = weigh_more (λ m. total w (queue_ends c.args.at (m.ends - m.starts) m.cells (since_of old m.cells))) ms i x low c.moved-item.is in
          let h = c.loop-moved.invariant.told once w in
          omega (arith, a, b, d, e, h);
      order = λ early up.
          ends_more c.args.at c.saturating_sub.result x.cells (since_of now x.cells) c.loop-moved.answer.items c.end_often.new.answer.items c.in_ok-end_often.ensures.told
          (ap (failing (λ s. nat_lt s c.args.at)) (c.loop-moved.invariant.since x.cells) ∙ failing_drop (λ s. nat_lt s c.args.at) _ (since_of old x.cells) (early x.cells))
          (c.loop-moved.invariant.order early up);
      filled = λ h. c.end_often.ensures.filled (c.loop-moved.invariant.filled h);
    }

pub returns-clause-since : goal.returns-clause-since
returns-clause-since c = λ once q.
    let ms = c.args.moves.now in
    c.loop-moved.invariant.since q
    ∙ ap (λ n. drop n (since_of c.args.held.now q)) (ap (λ l. sum_at net_ends l q) (take_all c.loop-moved.moved-index ms (let f = c.loop-moved-test.false in omega (arith, f))) ∙ once_net (λ m. m.ends) (λ m. m.starts) ms once q)

pub returns-in_err-end_often-clause-filled : goal.returns-in_err-end_often-clause-filled
returns-in_err-end_often-clause-filled c = λ h. c.end_often.ensures.filled (c.loop-moved.invariant.filled h)

pub returns-clause-order : goal.returns-clause-order
returns-clause-order c = c.loop-moved.invariant.order

pub returns-clause-filled : goal.returns-clause-filled
returns-clause-filled c = c.loop-moved.invariant.filled
