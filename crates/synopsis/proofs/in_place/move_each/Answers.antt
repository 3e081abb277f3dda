use Rattle.std.specs.Prelude.{◌≡◌, ℕ, ◌+◌, ◌-◌, ◌<◌, ◌++◌, nat_lt, true, List, take, drop, set, replicate, length, get_or, refl}
use Rattle.std.proofs.Common.{sym, ◌∙◌, ap, subst, suc, ◌*◌, arith}
use Rattle.std.proofs.lemmas.List.{append-nil, take_all, take_more_set}
use Rattle.tw_rows.specs.Bag.{total}
use Rattle.tw_rows.specs.SameCells.{same_cells, cells_are_same}
use Rattle.tw_rows.specs.declared.cells.Datum.{Datum}
use Rattle.tw_rows.specs.declared.edge.Edge.{Edge}
use Rattle.tw_rows.proofs.Bags.{total-append}
use Rattle.edge_history.specs.Order.{failing, is_end}
use Rattle.sweep_laws.specs.Queues.{queue_ends, queue_starts}
use Rattle.sweep_laws.specs.Sweeps.{InOrder}
use Rattle.synopsis.specs.declared.moves.Moves.{Moves}
use Rattle.synopsis.specs.Kept.{ends_of, starts_of}
use Rattle.synopsis.specs.Holding.{since_of, AreApart, HaveStarts, MovesInPlace, move_of, moves_of}
use Rattle.synopsis.proofs.EdgesApart.{apart_once, ends_before, move_at, moves_long, since_more, since_still}
use Rattle.synopsis.proofs.InPlace.{same_at, rest_set, start_at}
use Rattle.synopsis.proofs.Moving.{end_ordered, moved_ordered, count_more, last_ends}
use Rattle.synopsis.proofs.Telling.{sum_at, net_ends, net_starts, sum_more, weigh_more, before_zero, once_net, both_told}
use Rattle.synopsis.proofs.in_place.move_each.Goals as goal

pub loop-i-init : goal.loop-i-init
loop-i-init c = record {
  rest = refl;
  since = λ apart q. sym (append-nil (since_of c.args.held.now q));
  told = λ apart have w. omega arith;
  ends = λ apart have below early all. record { rises = tt; below = refl };
  order = λ apart have below early. record { rises = tt; below = refl };
  filled = λ h. h;
}

pub loop-i-preserved : goal.loop-i-preserved
loop-i-preserved c =
    let es = c.args.now.now in
    let ms = moves_of es in
    let i = c.loop-i.i in
    let x = c.index-now-i.result in
    let y = c.move_row.new.edge in
    let m = move_of x in
    let t = c.args.at in
    let was = c.loop-i.now in
    let old = since_of c.args.held.now in
    let now = since_of c.loop-i.held in
    let new = since_of c.move_row.new.held in
    let long = c.loop-i.auto.now in
    let here : i < length es = c.loop-i-test.true in
    let there : i < length was = omega (arith, here, long) in
    let is : x ≡ get_or es i x = c.index-now-i.is ∙ same_at was es i x c.loop-i.invariant.rest in
    let many = moves_long es in
    let low : i < length ms = omega (arith, many, here) in
    let at : m ≡ get_or ms i m = move_at es i x here is in
    let moved = subst (λ (z : Edge). MovesInPlace t z y c.loop-i.held c.move_row.new.held) (sym c.index-now-i.is) c.in_ok-move_row.ensures.moved in
    let zero : AreApart es → (v : Moves → ℕ) → sum_at v (take i ms) x.cells ≡ 0 = λ apart v. before_zero v ms i m (apart_once es apart) low at in
    let zero_at : AreApart es → (v : Moves → ℕ) (q : List Datum) → same_cells x.cells q ≡ true → sum_at v (take i ms) q ≡ 0 = λ apart v q e.
    ap (sum_at v (take i ms)) (sym (cells_are_same x.cells q e)) ∙ zero apart v in
    let still : AreApart es → now x.cells ≡ old x.cells = λ apart.
    since_still (sum_at net_ends (take i ms) x.cells) (sum_at net_starts (take i ms) x.cells) t (old x.cells) (now x.cells) (c.loop-i.invariant.since apart x.cells) (zero apart net_ends) (zero apart net_starts) in
    let early_now : AreApart es → ((q : List Datum) → failing (λ s. nat_lt s t) (old q) ≡ 0) → failing (λ s. nat_lt s t) (now x.cells) ≡ 0 = λ apart early.
    ap (failing (λ s. nat_lt s t)) (still apart) ∙ early x.cells in
    let n = m.ends - m.starts in
    let k = m.starts - m.ends in
    let told : AreApart es → HaveStarts old es → take (i + 1) (set was i y) ≡ take i was ++ (queue_ends t n x.cells (now x.cells) ++ queue_starts t k x.cells) = λ apart have.
    take_more_set was i y there
    ∙ ap (λ (l : List Edge). take i was ++ l) (moved.told (λ end. let s = ap (λ l. length l) (still apart) in let h = start_at old es i x have here is end in omega (arith, s, h))) in
    record {
      rest = rest_set was es i y c.loop-i.invariant.rest;
      since = λ apart q.
          since_more (same_cells x.cells q) (sum_at net_ends (take i ms) q) (sum_at net_starts (take i ms) q) (sum_at net_ends (take (i + 1) ms) q) (sum_at net_starts (take (i + 1) ms) q)
          n k t (old q) (now q) (new q) (c.loop-i.invariant.since apart q) (λ e. (zero_at apart net_ends q e, zero_at apart net_starts q e))
          (moved.since q) (sum_more net_ends ms i m q low at) (sum_more net_starts ms i m q low at);
      told = λ apart have w.
          let a = ap (total w) (told apart have) ∙ total-append w (take i was) (queue_ends t n x.cells (now x.cells) ++ queue_starts t k x.cells) in
          let b = total-append w (queue_ends t n x.cells (now x.cells)) (queue_starts t k x.cells) in
          let d = ap (λ l. total w (queue_ends t n x.cells l)) (still apart) in
          let e = weigh_more (λ m. total w (queue_ends t (m.ends - m.starts) m.cells (old m.cells))) ms i m low at in
          let f = weigh_more (λ m. total w (queue_starts t (m.starts - m.ends) m.cells)) ms i m low at in
          let h = c.loop-i.invariant.told apart have w in
          omega (arith, a, b, d, e, f, h);
      ends = λ apart have below early all.
          let p = last_ends x (failing is_end (take i es)) (sym (count_more es i x here is) ∙ all) in
          end_ordered t x (now x.cells) (take i was) (take (i + 1) (set was i y)) p.0 (told apart have) (early_now apart early) (c.loop-i.invariant.ends apart have below early p.1);
      order = λ apart have below early.
          moved_ordered t x (now x.cells) (take i was) (take (i + 1) (set was i y)) (told apart have) below (early_now apart early)
          (λ e. c.loop-i.invariant.ends apart have below early (ends_before es i x apart here is e)) (c.loop-i.invariant.order apart have below early);
      filled = λ h. c.move_row.ensures.filled (c.loop-i.invariant.filled h);
    }

pub returns-clause-since : goal.returns-clause-since
returns-clause-since c = λ apart q.
    let es = c.args.now.now in
    let ms = moves_of es in
    let i = c.loop-i.i in
    let t = c.args.at in
    let old = since_of c.args.held.now in
    let once = apart_once es apart in
    let long = moves_long es in
    let all : take i ms ≡ ms = take_all i ms (let f = c.loop-i-test.false in omega (arith, f, long)) in
    c.loop-i.invariant.since apart q
    ∙ (ap (λ n. drop n (old q) ++ replicate (sum_at net_starts (take i ms) q) t) (ap (λ l. sum_at net_ends l q) all ∙ once_net (λ m. m.ends) (λ m. m.starts) ms once q)
    ∙ ap (λ n. drop (ends_of ms q - starts_of ms q) (old q) ++ replicate n t) (ap (λ l. sum_at net_starts l q) all ∙ once_net (λ m. m.starts) (λ m. m.ends) ms once q))

pub returns-clause-told : goal.returns-clause-told
returns-clause-told c = λ apart have w.
    let es = c.args.now.now in
    let ms = moves_of es in
    let i = c.loop-i.i in
    let t = c.args.at in
    let old = since_of c.args.held.now in
    let long = moves_long es in
    let same = c.loop-i.auto.now in
    let all : take i ms ≡ ms = take_all i ms (let f = c.loop-i-test.false in omega (arith, f, long)) in
    let whole = ap (total w) (take_all i c.loop-i.now (let f = c.loop-i-test.false in omega (arith, f, same))) in
    let a = ap (total (λ m. total w (queue_ends t (m.ends - m.starts) m.cells (old m.cells)))) all in
    let b = ap (total (λ m. total w (queue_starts t (m.starts - m.ends) m.cells))) all in
    let d = both_told w t old ms (apart_once es apart) in
    let h = c.loop-i.invariant.told apart have w in
    omega (arith, a, b, d, h, whole)

pub returns-clause-order : goal.returns-clause-order
returns-clause-order c = λ apart have below early.
    let same = c.loop-i.auto.now in
    subst (InOrder (suc (2 * c.args.at))) (take_all c.loop-i.i c.loop-i.now (let f = c.loop-i-test.false in omega (arith, f, same))) (c.loop-i.invariant.order apart have below early)

pub returns-clause-filled : goal.returns-clause-filled
returns-clause-filled c = c.loop-i.invariant.filled

pub returns-in_err-move_row-clause-filled : goal.returns-in_err-move_row-clause-filled
returns-in_err-move_row-clause-filled c = λ h. c.move_row.ensures.filled (c.loop-i.invariant.filled h)
