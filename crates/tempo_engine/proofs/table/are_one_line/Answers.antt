use Rattle.std.specs.Prelude.{◌++◌, ◌∷◌, [], All}
use Rattle.std.proofs.Common.{◌∙◌, ap, refl, sym, subst, take}
use Rattle.std.proofs.lemmas.List.{take_more, take_all}
use Rattle.std.proofs.lemmas.List.Elements.{All-push, All-get_or}
use Rattle.frozen_state.specs.Formed.{IsOneLine}
use Rattle.tempo_engine.proofs.table.are_one_line.Goals as goal

pub loop-label-preserved : goal.loop-label-preserved
loop-label-preserved c =
    let xs = c.args.labels.now in
    let i = c.loop-label.label-index in
    let here = subst IsOneLine c.as_str.ensures (c.is_one_line.ensures.0 c.if-not-is_one_line.false) in
    subst (All IsOneLine) (ap (λ x. take i xs ++ x ∷ []) c.label-item.is ∙ sym (take_more xs i c.label-item.result c.loop-label-test.true))
    (All-push IsOneLine (take i xs) c.label-item.result c.loop-label.invariant here)

pub returns : goal.returns
returns c = (
  λ yes. subst (All IsOneLine) (take_all c.loop-label.label-index c.args.labels.now c.loop-label-test.false) c.loop-label.invariant,
  λ all. refl,
)

pub returns-then-not-is_one_line : goal.returns-then-not-is_one_line
returns-then-not-is_one_line c = (
  λ h. absurd (cc),
  λ all.
      let x = c.label-item.result in
      let here = All-get_or IsOneLine c.args.labels.now c.loop-label.label-index x c.loop-label-test.true all in
      sym c.if-not-is_one_line.true ∙ c.is_one_line.ensures.1 (subst IsOneLine (sym c.as_str.ensures) (subst IsOneLine (sym c.label-item.is) here)),
)
