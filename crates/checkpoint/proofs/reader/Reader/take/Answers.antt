use Rattle.std.proofs.Common.{◌≡◌, ◌∷◌, ◌++◌, [], sym, ◌∙◌, ap, subst}
use Rattle.frozen_state.specs.Frozen.{FrozenView}
use Rattle.checkpoint.specs.declared.reading.ReadingStage.TheVariants.{Ended}
use Rattle.checkpoint.specs.Form.{FormView}
use Rattle.checkpoint.specs.Text.{checkpoint_lines, IsOfForm, BeginsText}
use Rattle.checkpoint.specs.Steps.{standing}
use Rattle.checkpoint.specs.Taking.{ReaderView, lines_at, lines_taken, CanTake}
use Rattle.checkpoint.proofs.Going.{goes_on}
use Rattle.checkpoint.proofs.Stepping.{is_taking, can_take, parts_same, refuses, goes, gives_whole}
use Rattle.checkpoint.proofs.reader.Reader.take.Goals as goal

pub take-requires : goal.take-requires
take-requires c =
    let r = c.self.inside.reading in
    let going : r.stage ≡ Ended → ⊥ = λ e. c.requires (sym (ap (λ (v : ReaderView). v.stage) c.self.view_is) ∙ e) in
    parts_same r.form r.frozen r.stage (is_taking r.form r.frozen r.stage going c.self.invariant).stands

pub returns-in-Err-clause-refused : goal.returns-in-Err-clause-refused
returns-in-Err-clause-refused c = λ is begins.
    let r = c.self.inside.reading in
    let line = c.args.line.now in
    let going : r.stage ≡ Ended → ⊥ = λ e. c.requires (sym (ap (λ (v : ReaderView). v.stage) c.self.view_is) ∙ e) in
    refuses r.form r.frozen r.stage line (is_taking r.form r.frozen r.stage going c.self.invariant) (c.in-Err.ensures.refused is)
    (subst (λ (v : ReaderView). BeginsText v.form (lines_taken v ++ line ∷ [])) (sym c.self.view_is) begins)

pub returns-then-has_ended-clause-taken : goal.returns-then-has_ended-clause-taken
returns-then-has_ended-clause-taken c =
    let r = c.self.inside.reading in
    let n = c.take.new.self in
    let line = c.args.line.now in
    let going : r.stage ≡ Ended → ⊥ = λ e. c.requires (sym (ap (λ (v : ReaderView). v.stage) c.self.view_is) ∙ e) in
    let g = goes r.form r.frozen r.stage line (standing n.stage n.frozen) (is_taking r.form r.frozen r.stage going c.self.invariant) c.in-Ok.ensures.ok in
    let whole = gives_whole r.form r.frozen r.stage line (standing n.stage n.frozen) g (c.has_ended.ensures.yes c.if-has_ended.true) in
    subst (λ (v : ReaderView). (checkpoint_lines v.form.head c.replace-frozen.result ≡ lines_taken v ++ line ∷ []) × IsOfForm v.form c.replace-frozen.result) c.self.view_is
    (subst (λ (f : FrozenView). (checkpoint_lines r.form.head f ≡ lines_at r.form r.frozen r.stage ++ line ∷ []) × IsOfForm r.form f) (sym c.replace-frozen.ensures.value) whole)

pub invariant_of-self-else-has_ended : goal.invariant_of-self-else-has_ended
invariant_of-self-else-has_ended c =
    let r = c.self.inside.reading in
    let n = c.take.new.self in
    let going : r.stage ≡ Ended → ⊥ = λ e. c.requires (sym (ap (λ (v : ReaderView). v.stage) c.self.view_is) ∙ e) in
    let g = goes r.form r.frozen r.stage c.args.line.now (standing n.stage n.frozen) (is_taking r.form r.frozen r.stage going c.self.invariant) c.in-Ok.ensures.ok in
    subst (λ (form : FormView). CanTake form n.frozen n.stage) (sym c.in-Ok.ensures.form) (can_take r.form n.frozen n.stage g.taking)

pub returns-clause-taken : goal.returns-clause-taken
returns-clause-taken c =
    let r = c.self.inside.reading in
    let n = c.take.new.self in
    let line = c.args.line.now in
    let going : r.stage ≡ Ended → ⊥ = λ e. c.requires (sym (ap (λ (v : ReaderView). v.stage) c.self.view_is) ∙ e) in
    let g = goes r.form r.frozen r.stage line (standing n.stage n.frozen) (is_taking r.form r.frozen r.stage going c.self.invariant) c.in-Ok.ensures.ok in
    let on = goes_on r.form n.frozen n.stage (c.has_ended.ensures.no c.if-has_ended.false) g.taking.stands in
    subst (λ (v : ReaderView). (lines_at n.form n.frozen n.stage ≡ lines_taken v ++ line ∷ []) × BeginsText v.form (lines_at n.form n.frozen n.stage)) c.self.view_is
    (subst (λ (form : FormView). (lines_at form n.frozen n.stage ≡ lines_at r.form r.frozen r.stage ++ line ∷ []) × BeginsText r.form (lines_at form n.frozen n.stage)) (sym c.in-Ok.ensures.form) (g.lines, on))
