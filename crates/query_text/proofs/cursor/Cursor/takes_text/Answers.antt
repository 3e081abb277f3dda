use Rattle.std.proofs.Common.{◌+◌, ◌∷◌, sym, ap, ◌∙◌, subst, map, drop, IsUtf8}
use Rattle.plan_model.specs.IsExpr.{IsOneLine}
use Rattle.query_text.specs.Token.{str, token_of}
use Rattle.query_text.proofs.Cursors as P
use Rattle.query_text.proofs.cursor.Cursor.takes_text.Goals as goal

pub overflow_add-spot : goal.overflow_add-spot
overflow_add-spot c = P.fits_one _ _ _ (P.form _ _ _ _ _ c.self.invariant.1 c.in-Some.ensures.lookup.3.0 c.in-Some.ensures.lookup.1 c.in-Quoted.is) c.self.told.0.0

pub overflow_add-spot-2 : goal.overflow_add-spot-2
overflow_add-spot-2 c = P.fits _ _ _ (P.form _ _ _ _ _ c.self.invariant.1 c.in-Some.ensures.lookup.3.0 c.in-Some.ensures.lookup.1 c.in-Quoted.is).within c.self.told.0.0

pub overflow_sub-spot : goal.overflow_sub-spot
overflow_sub-spot c = P.behind_one _ _ _ (P.form _ _ _ _ _ c.self.invariant.1 c.in-Some.ensures.lookup.3.0 c.in-Some.ensures.lookup.1 c.in-Quoted.is)

pub range-requires-clause-start_le_end : goal.range-requires-clause-start_le_end
range-requires-clause-start_le_end c = P.in_order _ _ _ (P.form _ _ _ _ _ c.self.invariant.1 c.in-Some.ensures.lookup.3.0 c.in-Some.ensures.lookup.1 c.in-Quoted.is)

pub range-requires-clause-start_boundary : goal.range-requires-clause-start_boundary
range-requires-clause-start_boundary c = λ _. (P.cut _ _ _ _ _ c.self.invariant.2 c.self.invariant.1 c.in-Some.ensures.lookup.3.0 c.in-Some.ensures.lookup.1 c.in-Quoted.is).0.0

pub range-requires-clause-end_boundary : goal.range-requires-clause-end_boundary
range-requires-clause-end_boundary c = P.end_boundary _ _ _ (P.form _ _ _ _ _ c.self.invariant.1 c.in-Some.ensures.lookup.3.0 c.in-Some.ensures.lookup.1 c.in-Quoted.is) (P.cut _ _ _ _ _ c.self.invariant.2 c.self.invariant.1 c.in-Some.ensures.lookup.3.0 c.in-Some.ensures.lookup.1 c.in-Quoted.is).0.1

pub unquoted-requires : goal.unquoted-requires
unquoted-requires c =
    let q = P.form _ _ _ _ _ c.self.invariant.1 c.in-Some.ensures.lookup.3.0 c.in-Some.ensures.lookup.1 c.in-Quoted.is in
    subst IsUtf8 (sym (P.inside _ _ _ _ q c.range.ensures.value)) (P.sound _ _ _ _ _ c.self.invariant.2 c.self.invariant.1 c.in-Some.ensures.lookup.3.0 c.in-Some.ensures.lookup.1 c.in-Quoted.is).utf8

pub returns : goal.returns
returns c =
    let q = P.form _ _ _ _ _ c.self.invariant.1 c.in-Some.ensures.lookup.3.0 c.in-Some.ensures.lookup.1 c.in-Quoted.is in
    let same = c.in_ok-label.ensures ∙ P.inside _ _ _ _ q c.range.ensures.value in (
      sym c.self.view_is ∙ P.first _ _ _ _ _ c.in-Some.ensures.lookup.3.0 c.in-Some.ensures.lookup.1 c.in-Quoted.is ∙ ap (λ s. str s ∷ map (token_of c.self.inside.text.now) (drop (c.self.inside.at + 1) c.self.inside.words.now)) (sym same),
      subst IsOneLine (sym same) (P.one_line _ (P.sound _ _ _ _ _ c.self.invariant.2 c.self.invariant.1 c.in-Some.ensures.lookup.3.0 c.in-Some.ensures.lookup.1 c.in-Quoted.is)),
    )
