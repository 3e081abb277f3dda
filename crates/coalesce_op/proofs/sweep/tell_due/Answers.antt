use Rattle.std.proofs.Common.{◌∙◌, sym, ap, subst, arith, drop, take, List, []}
use Rattle.std.proofs.lemmas.List.{with_items_is}
use Rattle.tw_rows.specs.Bag.{total}
use Rattle.tw_rows.specs.declared.edge.Edge.{Edge}
use Rattle.edge_history.specs.Opens.{started_rows}
use Rattle.sweep_laws.specs.Sweeps.{IsDue, Tells}
use Rattle.sweep_laws.proofs.Sides.{tells_parts}
use Rattle.coalesce_op.specs.Coalesces.{coalesces}
use Rattle.coalesce_op.proofs.Steps.{starts_parted}
use Rattle.coalesce_op.proofs.sweep.tell_due.Goals as goal

pub returns-clause-swept : goal.returns-clause-swept
returns-clause-swept c = λ a from to d h.
    let n = c.in_ok-done.done in
    let written = with_items_is c.args.due c.sweep_in_place.new.due (c.sweep_in_place.auto.due ∙ c.deref_mut.ensures.len) in
    let r = c.in_ok-done.ensures.swept a from to (subst (λ (l : List Edge). IsDue a from to l) (sym c.deref_mut.ensures.value) d) h in
    let answer = c.sweep.new.answer.items in
    let done = c.in_ok-left.ensures.items ∙ ap (λ (l : List Edge). take n l) written in
    let left = c.as_slice.ensures.value ∙ (c.in_ok-left.ensures.tail ∙ (ap (λ (l : List Edge). drop n l) written ∙ c.in_ok-done.ensures.rest)) in
    let s = c.in_ok-sweep.ensures.swept a r.0 to (subst (λ (l : List Edge). IsDue a r.0 to l) (sym left) r.1.due) r.1.now in (
      s.0,
      tells_parts (coalesces a) from r.0 to [] (take n c.sweep_in_place.new.due) answer r.1.low r.1.due.low r.1.told
          (subst (λ (l : List Edge). Tells (coalesces a) r.0 to l answer) done s.1),
    )

pub returns-clause-rows : goal.returns-clause-rows
returns-clause-rows c = λ w.
    let n = c.in_ok-done.done in
    let written = with_items_is c.args.due c.sweep_in_place.new.due (c.sweep_in_place.auto.due ∙ c.deref_mut.ensures.len) in
    let left = c.as_slice.ensures.value ∙ (c.in_ok-left.ensures.tail ∙ (ap (λ (l : List Edge). drop n l) written ∙ c.in_ok-done.ensures.rest)) in
    let a = c.in_ok-done.ensures.rows w in
    let b = c.in_ok-sweep.ensures.rows w in
    let k = ap (λ (l : List Edge). total w (started_rows l)) left in
    let p = starts_parted w n c.deref_mut.result.now in
    let v = ap (λ (l : List Edge). total w (started_rows l)) c.deref_mut.ensures.value in
    omega (arith, a, b, k, p, v)
