use Rattle.std.specs.Prelude.{◌≡◌, ℕ, ◌+◌, ◌-◌, ◌<◌, ◌++◌, nat_lt, true, List, take, drop, replicate, length, get_or}
use Rattle.std.proofs.Common.{sym, ◌∙◌, ap, arith}
use Rattle.std.proofs.lemmas.List.{append-nil, take_all}
use Rattle.tw_rows.specs.Bag.{total}
use Rattle.tw_rows.specs.SameCells.{same_cells, cells_are_same}
use Rattle.tw_rows.specs.declared.cells.Datum.{Datum}
use Rattle.tw_rows.proofs.Bags.{total-append}
use Rattle.edge_history.specs.Order.{failing, is_end}
use Rattle.sweep_laws.specs.Queues.{queue_ends, queue_starts}
use Rattle.sweep_laws.proofs.Ordering.{order_later}
use Rattle.synopsis.specs.declared.moves.Moves.{Moves}
use Rattle.synopsis.specs.Kept.{ends_of, starts_of}
use Rattle.synopsis.specs.Holding.{since_of, AreApart, move_of, moves_of}
use Rattle.synopsis.proofs.EdgesApart.{apart_once, ends_before, move_at, moves_long, since_more, since_still}
use Rattle.synopsis.proofs.Moving.{end_ordered, moved_ordered, count_more, last_ends}
use Rattle.synopsis.proofs.Telling.{sum_at, net_ends, net_starts, sum_more, weigh_more, before_zero, once_net, both_told}
use Rattle.synopsis.proofs.edges.move_apart.Goals as goal

pub loop-edge-init : goal.loop-edge-init
loop-edge-init c = record {
  since = λ apart q. sym (append-nil (since_of c.args.held.now q));
  told = λ apart w. omega arith;
  ends = λ apart below early up all. up;
  order = λ apart below early up. order_later _ _ c.args.answer.now.items (omega arith) up;
  filled = λ h. h;
}

pub loop-edge-preserved : goal.loop-edge-preserved
loop-edge-preserved c =
    let es = c.args.now.now in
    let ms = moves_of es in
    let i = c.loop-edge.edge-index in
    let x = c.edge-item.result in
    let m = move_of x in
    let t = c.args.at in
    let old = since_of c.args.held.now in
    let now = since_of c.loop-edge.held in
    let new = since_of c.move_one.new.held in
    let here : i < length es = c.loop-edge-test.true in
    let long = moves_long es in
    let low : i < length ms = omega (arith, long, here) in
    let at : m ≡ get_or ms i m = move_at es i x here c.edge-item.is in
    let moved = c.in_ok-move_one.ensures.moved in
    let zero : AreApart es → (v : Moves → ℕ) → sum_at v (take i ms) x.cells ≡ 0 = λ apart v. before_zero v ms i m (apart_once es apart) low at in
    let zero_at : AreApart es → (v : Moves → ℕ) (q : List Datum) → same_cells x.cells q ≡ true → sum_at v (take i ms) q ≡ 0 = λ apart v q e.
    ap (sum_at v (take i ms)) (sym (cells_are_same x.cells q e)) ∙ zero apart v in
    let still : AreApart es → now x.cells ≡ old x.cells = λ apart.
    since_still (sum_at net_ends (take i ms) x.cells) (sum_at net_starts (take i ms) x.cells) t (old x.cells) (now x.cells) (c.loop-edge.invariant.since apart x.cells) (zero apart net_ends) (zero apart net_starts) in
    let early_now : AreApart es → ((q : List Datum) → failing (λ s. nat_lt s t) (old q) ≡ 0) → failing (λ s. nat_lt s t) (now x.cells) ≡ 0 = λ apart early.
    ap (failing (λ s. nat_lt s t)) (still apart) ∙ early x.cells in
    record {
      since = λ apart q.
          since_more (same_cells x.cells q) (sum_at net_ends (take i ms) q) (sum_at net_starts (take i ms) q) (sum_at net_ends (take (i + 1) ms) q) (sum_at net_starts (take (i + 1) ms) q)
          (m.ends - m.starts) (m.starts - m.ends) t (old q) (now q) (new q) (c.loop-edge.invariant.since apart q) (λ e. (zero_at apart net_ends q e, zero_at apart net_starts q e))
          (moved.since q) (sum_more net_ends ms i m q low at) (sum_more net_starts ms i m q low at);
      told = λ apart w.
          let n = m.ends - m.starts in
          let k = m.starts - m.ends in
          let a = ap (total w) moved.told ∙ total-append w c.loop-edge.answer.items (queue_ends t n x.cells (now x.cells) ++ queue_starts t k x.cells) in
          let b = total-append w (queue_ends t n x.cells (now x.cells)) (queue_starts t k x.cells) in
          let d = ap (λ l. total w (queue_ends t n x.cells l)) (still apart) in
          let e = weigh_more (λ m. total w (queue_ends t (m.ends - m.starts) m.cells (old m.cells))) ms i m low at in
          let f = weigh_more (λ m. total w (queue_starts t (m.starts - m.ends) m.cells)) ms i m low at in
          let h = c.loop-edge.invariant.told apart w in
          omega (arith, a, b, d, e, f, h);
      ends = λ apart below early up all.
          let p = last_ends x (failing is_end (take i es)) (sym (count_more es i x here c.edge-item.is) ∙ all) in
          end_ordered t x (now x.cells) c.loop-edge.answer.items c.move_one.new.answer.items p.0 moved.told (early_now apart early) (c.loop-edge.invariant.ends apart below early up p.1);
      order = λ apart below early up.
          moved_ordered t x (now x.cells) c.loop-edge.answer.items c.move_one.new.answer.items moved.told below (early_now apart early)
          (λ e. c.loop-edge.invariant.ends apart below early up (ends_before es i x apart here c.edge-item.is e)) (c.loop-edge.invariant.order apart below early up);
      filled = λ h. c.move_one.ensures.filled (c.loop-edge.invariant.filled h);
    }

pub returns-clause-since : goal.returns-clause-since
returns-clause-since c = λ apart q.
    let es = c.args.now.now in
    let ms = moves_of es in
    let i = c.loop-edge.edge-index in
    let t = c.args.at in
    let old = since_of c.args.held.now in
    let once = apart_once es apart in
    let long = moves_long es in
    let all : take i ms ≡ ms = take_all i ms (let f = c.loop-edge-test.false in omega (arith, f, long)) in
    c.loop-edge.invariant.since apart q
    ∙ (ap (λ n. drop n (old q) ++ replicate (sum_at net_starts (take i ms) q) t) (ap (λ l. sum_at net_ends l q) all ∙ once_net (λ m. m.ends) (λ m. m.starts) ms once q)
    ∙ ap (λ n. drop (ends_of ms q - starts_of ms q) (old q) ++ replicate n t) (ap (λ l. sum_at net_starts l q) all ∙ once_net (λ m. m.starts) (λ m. m.ends) ms once q))

pub returns-clause-told : goal.returns-clause-told
returns-clause-told c = λ apart w.
    let es = c.args.now.now in
    let ms = moves_of es in
    let i = c.loop-edge.edge-index in
    let t = c.args.at in
    let old = since_of c.args.held.now in
    let long = moves_long es in
    let all : take i ms ≡ ms = take_all i ms (let f = c.loop-edge-test.false in omega (arith, f, long)) in
    let a = ap (total (λ m. total w (queue_ends t (m.ends - m.starts) m.cells (old m.cells)))) all in
    let b = ap (total (λ m. total w (queue_starts t (m.starts - m.ends) m.cells))) all in
    let d = both_told w t old ms (apart_once es apart) in
    let h = c.loop-edge.invariant.told apart w in
    omega (arith, a, b, d, h)

pub returns-clause-order : goal.returns-clause-order
returns-clause-order c = c.loop-edge.invariant.order

pub returns-clause-filled : goal.returns-clause-filled
returns-clause-filled c = c.loop-edge.invariant.filled

pub returns-in_err-move_one-clause-filled : goal.returns-in_err-move_one-clause-filled
returns-in_err-move_one-clause-filled c = λ h. c.move_one.ensures.filled (c.loop-edge.invariant.filled h)
