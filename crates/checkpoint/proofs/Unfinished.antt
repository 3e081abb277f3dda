-- A reader that goes on has not taken all lines of a text.
use Rattle.std.proofs.Common.{◌≡◌, ℕ, List, [], ◌∷◌, ◌++◌, Option, Some, None, sym, ◌∙◌, ap}
use Rattle.frozen_state.specs.Frozen.{FrozenView}
use Rattle.frozen_state.specs.Forms.{AreApart}
use Rattle.checkpoint.specs.declared.reading.ReadingStage.{ReadingStage}
use Rattle.checkpoint.specs.declared.reading.ReadingStage.TheVariants.{Head, Ended}
use Rattle.checkpoint.specs.Form.{FormView}
use Rattle.checkpoint.specs.Text.{checkpoint_lines, IsOfForm, IsUnfinished}
use Rattle.checkpoint.specs.Steps.{State, standing, opening, reads}
use Rattle.checkpoint.specs.Taking.{lines_at, IsTaking}
use Rattle.checkpoint.proofs.Going.{goes_on}
use Rattle.checkpoint.proofs.Leading.{text_leads, reads_append, reads_none}

abbrev stage_of : Option State → ReadingStage
stage_of (Some s) = s.stage
stage_of None = Ended

-- after the last line none is read
ends : (form : FormView) (f g : FrozenView) (stage : ReadingStage) (rest : List (List ℕ)) → (stage ≡ Ended → ⊥) → Some (standing stage f) ≡ reads form (Some (standing Ended g)) rest → ⊥
ends form f g stage [] going e = going (ap stage_of e)
ends form f g stage (line ∷ rest) going e = going (ap stage_of (e ∙ reads_none form rest))

pub unfinished : (form : FormView) (f : FrozenView) (stage : ReadingStage) → (stage ≡ Ended → ⊥) → IsTaking form f stage → IsUnfinished form (lines_at form f stage)
unfinished form f stage going t = record {
  begins = goes_on form f stage going t.stands;
  none_whole = λ g rest of e. ends form f g stage rest going
      (sym t.led ∙ (ap (reads form (Some (standing (Head 0) (opening form)))) e
      ∙ (reads_append form _ (checkpoint_lines form.head g) rest ∙ ap (λ s. reads form s rest) (text_leads form g of t.apart))));
}

-- nor is a text the front of another one
abbrev frozen_of : FrozenView → Option State → FrozenView
frozen_of f (Some s) = s.frozen
frozen_of f None = f

both_end : (form : FormView) (f g : FrozenView) (rest : List (List ℕ)) → Some (standing Ended f) ≡ reads form (Some (standing Ended g)) rest → f ≡ g
both_end form f g [] e = ap (frozen_of f) e
both_end form f g (line ∷ rest) e = absurd (some_or_none (e ∙ reads_none form rest))
  where
    some_or_none : Some (standing Ended f) ≡ None → ⊥
    some_or_none e = cc

pub one_front : (form : FormView) (f g : FrozenView) (rest : List (List ℕ)) → IsOfForm form f → IsOfForm form g → AreApart form.parts →
    checkpoint_lines form.head f ≡ checkpoint_lines form.head g ++ rest → f ≡ g
one_front form f g rest of other apart e = both_end form f g rest
    (sym (text_leads form f of apart) ∙ (ap (reads form (Some (standing (Head 0) (opening form)))) e
    ∙ (reads_append form _ (checkpoint_lines form.head g) rest ∙ ap (λ s. reads form s rest) (text_leads form g other apart))))
