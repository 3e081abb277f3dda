-- Answers to the goals of saving::save_all.
use Rattle.std.specs.Prelude.{◌≡◌, ◌+◌, [], ◌∷◌, map}
use Rattle.std.proofs.Common.{◌∙◌, length, ap, sym, subst, arith}
use Rattle.std.proofs.lemmas.List.{length_push, length-map, map-append}
use Rattle.dataflow.proofs.Reloading.{lists, SavesTo, saves_next, saves_all, at_any}
use Rattle.dataflow.proofs.saving.save_all.Goals as goal

pub loop-i-preserved : goal.loop-i-preserved
loop-i-preserved c =
    let before = c.loop-i.invariant in
    let pushed = c.in_ok-push.ensures.items in
    let stages = c.args.stages.now in
    let s = c.index-stages-i.result in
    let x = c.in_ok-save.field-0 in
    let long = length-map c.loop-i.saved.items lists in
    record {
      count = ap length pushed ∙ length_push c.loop-i.saved.items x ∙ ap (λ m. m + 1) before.count;
      saves = subst (SavesTo (c.loop-i.i + 1) stages) (sym (ap (map lists) pushed ∙ map-append lists c.loop-i.saved.items (x ∷ [])))
          (saves_next c.loop-i.i stages (map lists c.loop-i.saved.items) s x.items (long ∙ before.count) (λ d. at_any stages c.loop-i.i s d c.loop-i-test.true c.index-stages-i.is) before.saves
          (c.in_ok-save.ensures.saves, c.in_ok-save.ensures.few, c.in_ok-save.ensures.stored));
    }

pub returns : goal.returns
returns c =
    let before = c.loop-i.invariant in
    let test = c.loop-i-test.false in
    let bound = c.loop-i.auto.i-end in
    let long = length-map c.loop-i.saved.items lists in
    let end : c.loop-i.i ≡ length c.args.stages.now = omega (arith, test, bound) in
    saves_all c.args.stages.now (map lists c.loop-i.saved.items) (long ∙ before.count ∙ end) (subst (λ k. SavesTo k c.args.stages.now (map lists c.loop-i.saved.items)) end before.saves)
