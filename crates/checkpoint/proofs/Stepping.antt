-- A reader goes on with a line, or refuses it.
use Rattle.std.proofs.Common.{◌≡◌, ℕ, List, [], ◌∷◌, ◌++◌, length, Option, Some, None, refl, ◌∙◌, ap, subst}
use Rattle.std.proofs.lemmas.List.{length-map}
use Rattle.frozen_state.specs.Frozen.{FrozenView}
use Rattle.checkpoint.specs.declared.reading.ReadingStage.{ReadingStage}
use Rattle.checkpoint.specs.declared.reading.ReadingStage.TheVariants.{Head, Texts, Entries, Ended}
use Rattle.checkpoint.specs.Form.{FormView}
use Rattle.checkpoint.specs.Text.{checkpoint_lines, IsOfForm, BeginsText}
use Rattle.checkpoint.specs.Steps.{State, standing, opening, step, reads}
use Rattle.checkpoint.specs.Taking.{lines_at, IsAt, IsTaking, CanTake}
use Rattle.checkpoint.proofs.Entries.{parts_length}
use Rattle.checkpoint.proofs.Growing.{grows}
use Rattle.checkpoint.proofs.Leading.{text_leads, reads_append, reads_none}

pub is_taking : (form : FormView) (f : FrozenView) (stage : ReadingStage) → (stage ≡ Ended → ⊥) → CanTake form f stage → IsTaking form f stage
is_taking form f (Head n) going can = can
is_taking form f Texts going can = can
is_taking form f (Entries k) going can = can
is_taking form f Ended going can = absurd (going refl)

pub can_take : (form : FormView) (f : FrozenView) (stage : ReadingStage) → IsTaking form f stage → CanTake form f stage
can_take form f (Head n) is = is
can_take form f Texts is = is
can_take form f (Entries k) is = is
can_take form f Ended is = tt

-- a part for each form
pub parts_same : (form : FormView) (f : FrozenView) (stage : ReadingStage) → IsAt form f stage → length f.parts ≡ length form.parts
parts_same form f (Head n) at = ap (λ (g : FrozenView). length g.parts) at.1 ∙ length-map form.parts (λ g. record { owner = g.owner; shard = g.shard; saved = [] })
parts_same form f Texts at = parts_length form.parts f.parts at.read.parts
parts_same form f (Entries k) at = parts_length form.parts f.parts at.of_form.read.parts
parts_same form f Ended at = parts_length form.parts f.parts at.read.parts

-- no text goes on with a line that is refused
pub refuses : (form : FormView) (f : FrozenView) (stage : ReadingStage) (line : List ℕ) → IsTaking form f stage → step form line (standing stage f) ≡ None →
    BeginsText form (lines_at form f stage ++ line ∷ []) → ⊥
refuses form f stage line is none begins =
    let start = Some (standing (Head 0) (opening form)) in
    let lines = lines_at form f stage in
    let whole : reads form start (checkpoint_lines form.head begins.frozen) ≡ Some (standing Ended begins.frozen) = text_leads form begins.frozen begins.of_form is.apart in
    let stops : reads form start (checkpoint_lines form.head begins.frozen) ≡ None =
    ap (reads form start) begins.text
    ∙ reads_append form start (lines ++ line ∷ []) begins.rest
    ∙ ap (λ (s : Option State). reads form s begins.rest) (reads_append form start lines (line ∷ []) ∙ ap (λ (s : Option State). reads form s (line ∷ [])) is.led ∙ none)
    ∙ reads_none form begins.rest in
    cc

-- and with one that is taken a reader goes on
pub record Goes (form : FormView) (f : FrozenView) (stage : ReadingStage) (line : List ℕ) (s : State) : Type 0 where
  pub taking : IsTaking form s.frozen s.stage
  pub lines : lines_at form s.frozen s.stage ≡ lines_at form f stage ++ line ∷ []

pub goes : (form : FormView) (f : FrozenView) (stage : ReadingStage) (line : List ℕ) (s : State) → IsTaking form f stage → step form line (standing stage f) ≡ Some s → Goes form f stage line s
goes form f stage line s is h =
    let start = Some (standing (Head 0) (opening form)) in
    let g = grows form f stage line s is.stands h in
    record {
      taking = record {
        apart = is.apart;
        stands = g.at;
        led = ap (reads form start) g.lines ∙ reads_append form start (lines_at form f stage) (line ∷ []) ∙ ap (λ (t : Option State). reads form t (line ∷ [])) is.led ∙ h;
      };
      lines = g.lines;
    }

pub gives_whole : (form : FormView) (f : FrozenView) (stage : ReadingStage) (line : List ℕ) (s : State) → Goes form f stage line s → s.stage ≡ Ended →
    (checkpoint_lines form.head s.frozen ≡ lines_at form f stage ++ line ∷ []) × IsOfForm form s.frozen
gives_whole form f stage line s g e =
    subst (λ (t : ReadingStage). (lines_at form s.frozen t ≡ lines_at form f stage ++ line ∷ []) × IsAt form s.frozen t) e (g.lines, g.taking.stands)
