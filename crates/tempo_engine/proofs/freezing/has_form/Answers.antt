use Rattle.std.specs.Prelude.{◌≡◌, IsTrue, All}
use Rattle.std.proofs.Common.{◌∙◌, sym, subst}
use Rattle.frozen_state.specs.Forms.{part_forms}
use Rattle.frozen_state.specs.Formed.{ArePartsOf, IsOneLine}
use Rattle.tempo_engine.specs.Named.{PartsArePlaced}
use Rattle.tempo_engine.proofs.freezing.has_form.Goals.{then-are_stored, else-are_stored, then-are_placed, else-are_placed}
use Rattle.tempo_engine.proofs.freezing.has_form.Goals as goal

pub returns : goal.returns
returns c =
    let forms = part_forms c.args.workers c.args.plan.now in
    let parts = c.args.frozen.now.parts in
    let texts = c.args.texts.now in
    let of_forms : c.deref.result.now ≡ forms = c.deref.ensures.value ∙ c.in_ok-forms.ensures in
    let has_parts : IsTrue c.are_stored.result → ArePartsOf forms parts =
    λ yes. subst (λ fs. ArePartsOf fs parts) of_forms (subst (ArePartsOf c.deref.result.now) c.parts.ensures (c.are_stored.ensures.0 yes)) in
    let is_stored : ArePartsOf forms parts → IsTrue c.are_stored.result =
    λ all. c.are_stored.ensures.1 (subst (ArePartsOf c.deref.result.now) (sym c.parts.ensures) (subst (λ fs. ArePartsOf fs parts) (sym of_forms) all)) in
    let both : (IsTrue c.if-are_stored.value → ArePartsOf forms parts × PartsArePlaced texts parts)
    × (ArePartsOf forms parts → PartsArePlaced texts parts → IsTrue c.if-are_stored.value) =
    elim c.if-are_stored.branch [
      | then-are_stored w ↦ (
        λ yes. (has_parts w.if-are_stored.true, subst (PartsArePlaced texts) w.parts-then-are_stored.ensures (w.are_placed.ensures.0 (sym w.value-is ∙ yes))),
        λ all placed. w.value-is ∙ w.are_placed.ensures.1 (subst (PartsArePlaced texts) (sym w.parts-then-are_stored.ensures) placed),
      )
      | else-are_stored w ↦ (
        λ yes. absurd (let v = w.value-is in cc),
        λ all placed. absurd (let s = is_stored all in let n = w.if-are_stored.false in cc),
      )
    ] in
    elim c.if-are_placed.branch [
      | then-are_placed w ↦ (
        λ yes. record {
          parts = (both.0 w.if-are_placed.true).0;
          placed = (both.0 w.if-are_placed.true).1;
          one_line = subst (All IsOneLine) w.texts.ensures (w.are_one_line.ensures.0 (sym w.result-is ∙ yes));
        },
        λ f. w.result-is ∙ w.are_one_line.ensures.1 (subst (All IsOneLine) (sym w.texts.ensures) f.one_line),
      )
      | else-are_placed w ↦ (
        λ yes. absurd (let r = w.result-is in cc),
        λ f. absurd (let v = both.1 f.parts f.placed in let n = w.if-are_placed.false in cc),
      )
    ]
