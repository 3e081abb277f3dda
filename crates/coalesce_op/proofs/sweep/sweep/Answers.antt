use Rattle.std.proofs.Common.{◌≡◌, ◌∙◌, suc, sym, ap, subst, arith, drop, length, List}
use Rattle.std.proofs.lemmas.List.{drop-drop, length-drop}
use Rattle.tw_rows.specs.declared.edge.Edge.{Edge}
use Rattle.sweep_sides.proofs.Cutting.{drop_past, starts_before, starts_part}
use Rattle.coalesce_op.specs.Holding.{CoalesceReached}
use Rattle.coalesce_op.proofs.Steps.{reach_start, reach_step, reach_end}
use Rattle.coalesce_op.proofs.sweep.sweep.Goals as goal

pub loop-done-init : goal.loop-done-init
loop-done-init c = record {
  within = omega arith;
  rows = λ w. (omega arith);
  reached = λ a from to d h. (from, reach_start a from to c.args.due.now c.args.queues.now c.args.answer.now.items d h);
}

pub loop-done-preserved : goal.loop-done-preserved
loop-done-preserved c =
    let now = c.loop-done.queues in
    let later = c.pass.new.queues in
    let i = c.loop-done.done in
    let n = c.first_instant-n.result in
    let due = c.args.due.now in
    let left = c.rest-left.result.now in
    let el : left ≡ drop i due = c.rest-left.ensures in
    let gl = ap (λ (l : List Edge). length l) el ∙ length-drop i due in
    let wl = c.first_instant-n.ensures.within in
    let hi = c.loop-done.invariant.within in
    let t = c.next_instant-t.result in
    let a0 = c.args.answer.now.items in
    let a1 = c.loop-done.answer.items in
    let a2 = c.pass.new.answer.items in
    record {
      within = omega (arith, gl, wl, hi);
      rows = λ w.
          let a = c.loop-done.invariant.rows w in
          let b = c.in_ok-pass.ensures.rows c.first_instant-n.ensures.same w in
          let d = starts_before w due left i n el in
          omega (arith, a, b, d);
      reached = λ a from to d h.
          let r = c.loop-done.invariant.reached a from to d h in
          let r1 : CoalesceReached a from r.0 to left now a0 a1 = subst (λ l. CoalesceReached a from r.0 to l now a0 a1) (sym el) r.1 in
          let z = reach_step a from r.0 t to n left now later a0 a1 a2 r1 c.next_instant-t.ensures c.first_instant-n.ensures.same c.first_instant-n.ensures.next
          (λ low lives same held. c.in_ok-pass.ensures.swept a low lives same held) in
          (suc t, subst (λ l. CoalesceReached a from (suc t) to l later a0 a2) (ap (λ (l : List Edge). drop n l) el ∙ drop-drop n i due) z);
    }

pub returns : goal.returns
returns c =
    let p = c.loop-done-test.false in
    record {
      swept = λ a from to d h.
          let r = c.loop-done.invariant.reached a from to d h in
          reach_end a from r.0 to (drop c.loop-done.done c.args.due.now) c.loop-done.queues c.args.answer.now.items c.loop-done.answer.items (drop_past c.args.due.now c.loop-done.done p) r.1;
      rows = λ w. (let a = c.loop-done.invariant.rows w in let b = starts_part w c.args.due.now c.loop-done.done in omega (arith, a, b));
    }
