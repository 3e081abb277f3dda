use Rattle.std.proofs.Common.{◌≡◌, ◌∙◌, ◌+◌, ◌-◌, ◌++◌, suc, sym, ap, subst, arith, drop, take, length, List, [], refl}
use Rattle.std.proofs.lemmas.List.{drop-drop, length-drop}
use Rattle.tw_rows.specs.Bag.{SameBag, total}
use Rattle.edge_history.specs.Opens.{started_rows}
use Rattle.tw_rows.specs.declared.edge.Edge.{Edge}
use Rattle.edge_history.specs.Balance.{news}
use Rattle.edge_history.specs.Order.{failing}
use Rattle.synopsis.specs.Holding.{AreApart}
use Rattle.sweep_laws.specs.Sweeps.{is_at}
use Rattle.sweep_sides.proofs.Cutting.{starts_before}
use Rattle.coalesce_op.specs.Coalesces.{coalesces}
use Rattle.coalesce_op.specs.Holding.{CoalesceReached}
use Rattle.sweep_sides.proofs.Overwriting.{part_is, rest_written, part_written}
use Rattle.coalesce_op.proofs.Steps.{reach_start, reach_step, tells_behind}
use Rattle.coalesce_op.proofs.sweep.sweep_in_place.Goals as goal

pub loop-done-init : goal.loop-done-init
loop-done-init c = record {
  within = omega arith;
  rest = refl;
  rows = λ w. (omega arith);
  reached = λ a from to d h. (from, reach_start a from to c.args.due.now c.args.queues.now [] d h);
}

pub pass_in_place-requires : goal.pass_in_place-requires
pass_in_place-requires c =
    subst AreApart (sym (part_is c.loop-done.due c.rest-left.result.now c.loop-done.done c.first_instant-n.result c.rest-left.ensures)) (c.is_few_apart.ensures.0 c.if-not-is_few_apart.false).1

pub loop-done-preserved : goal.loop-done-preserved
loop-done-preserved c =
    let now = c.loop-done.queues in
    let later = c.pass_in_place.new.queues in
    let i = c.loop-done.done in
    let n = c.first_instant-n.result in
    let due = c.args.due.now in
    let was = c.loop-done.due in
    let part = c.pass_in_place.new.now in
    let left = c.rest-left.result.now in
    let long = c.loop-done.auto.due in
    let ew : left ≡ drop i was = c.rest-left.ensures in
    let el : left ≡ drop i due = ew ∙ c.loop-done.invariant.rest in
    let pl : take ((i + n) - i) (drop i was) ≡ take n left = part_is was left i n ew in
    let gl = ap (λ (l : List Edge). length l) el ∙ length-drop i due in
    let wl = c.first_instant-n.ensures.within in
    let hi = c.loop-done.invariant.within in
    let t = c.next_instant-t.result in
    record {
      within = omega (arith, gl, wl, hi);
      rest = rest_written was part i n (omega (arith, gl, wl, hi, long)) c.pass_in_place.auto.now due c.loop-done.invariant.rest;
      rows = λ w.
          let a = c.loop-done.invariant.rows w in
          let b = c.in_ok-pass_in_place.ensures.rows (ap (failing (is_at t)) pl ∙ c.first_instant-n.ensures.same) w in
          let k = ap (λ (l : List Edge). total w (started_rows l)) pl in
          let d = starts_before w due left i n el in
          omega (arith, a, b, d, k);
      reached = λ a from to d h.
          let r = c.loop-done.invariant.reached a from to d h in
          let r1 : CoalesceReached a from r.0 to left now [] (take i was) = subst (λ l. CoalesceReached a from r.0 to l now [] (take i was)) (sym el) r.1 in
          let z = reach_step a from r.0 t to n left now later [] (take i was) (take i was ++ part) r1 c.next_instant-t.ensures c.first_instant-n.ensures.same c.first_instant-n.ensures.next
          (λ low lives same held.
          let p = c.in_ok-pass_in_place.ensures.swept a low lives (subst (λ (l : List Edge). SameBag l (news t (suc t) a)) (sym pl) same) held in
          (p.0, tells_behind (coalesces a) t (suc t) (take i was) part (omega arith) p.1)) in (
            suc t,
            subst (λ l. CoalesceReached a from (suc t) to (drop (i + n) due) later [] l) (sym (part_written was part i n (omega (arith, gl, wl, hi, long)) c.pass_in_place.auto.now))
                (subst (λ l. CoalesceReached a from (suc t) to l later [] (take i was ++ part)) (ap (λ (l : List Edge). drop n l) el ∙ drop-drop n i due) z),
          );
    }
