-- Nothing follows a fault, and a skipped line changes nothing.
use Rattle.std.specs.Prelude.{◌≡◌, ℕ, Bool, true, false, nat_lt, cond, flat_map, List, [], ◌∷◌, ◌++◌, length, Option, Some, None, Ok, Err, refl}
use Rattle.std.proofs.Common.{sym, ◌∙◌, ap}
use Rattle.tw_rows.specs.Instant.{inf}
use Rattle.plan_model.specs.IsPlan.{PlanParts}
use Rattle.plan_model.specs.Meaning.{IsOrdered, IsLevelled}
use Rattle.plan_laws.specs.Undefined.{Overflow, overflow}
use Rattle.row_reader.specs.Entry.{Read}
use Rattle.admission.specs.declared.policy.Policy.{Policy}
use Rattle.admission.specs.Admission.{Outcome, Taken, WasLate, Unmatched, admit, rows, allowed}
use Rattle.admission.specs.Entries.{Told, IsRead, AreRead}
use Rattle.admission.specs.Keeping.{Goes, IsGoing}
use Rattle.admission.specs.Progress.{Fault, Progress, start, judged, punctuated, went_on, reading, unless_fault, step, at_end, steps, progress, fault}
use Rattle.admission.specs.Text.{Item, written, text}
use Rattle.admission.proofs.Finality.{start_going, steps-append, steps_grow, written_after}
use Rattle.admission.proofs.Steps.{OnTaken, admit_goes}

read_front : (streams : ℕ) (lines : List Told) (line : Told) → AreRead streams (lines ++ line ∷ []) → AreRead streams lines × IsRead streams line.read
read_front streams [] line h = (tt, h.0)
read_front streams (l ∷ lines) line h = (let r = read_front streams lines line h.1 in ((h.0, r.0), r.1))

module _ (plan : PlanParts) (policy : Policy) where
  step_stays : (w : Progress) (line : Told) (f : Fault) → w.fault ≡ Some f → step plan policy w line ≡ w
  step_stays w line f e = ap (λ x. unless_fault x w (reading plan policy line.number w line.read)) e

  pub steps_stay : (w : Progress) (lines : List Told) (f : Fault) → w.fault ≡ Some f → steps plan policy w lines ≡ w
  steps_stay w [] f e = refl
  steps_stay w (line ∷ lines) f e = ap (λ x. steps plan policy x lines) (step_stays w line f e) ∙ steps_stay w lines f e

  end_stays : (w : Progress) (ended : Bool) (f : Fault) → w.fault ≡ Some f → at_end plan ended w ≡ w
  end_stays w false f e = refl
  end_stays w true f e = ap (λ x. unless_fault x w (punctuated plan inf w)) e

  -- after a fault neither it nor the rows nor the punctuations change
  pub progress_stays : (lines tail : List Told) (ended : Bool) (f : Fault) → (progress plan policy lines false).fault ≡ Some f →
      progress plan policy (lines ++ tail) ended ≡ progress plan policy lines false
  progress_stays lines tail ended f e =
      let w = steps plan policy start lines in
      let all : steps plan policy start (lines ++ tail) ≡ w = steps-append plan policy start lines tail ∙ steps_stay w tail f e in
      ap (at_end plan ended) all ∙ end_stays w ended f e

module _ (plan : PlanParts) (ordered : IsOrdered plan.nodes) (levelled : IsLevelled plan.nodes) (policy : Policy) where
  judged_writes : (p : ℕ) (w : Progress) (o : Option Overflow) (f : Fault) (b : Bool) → w.fault ≡ None → (cond b (judged p w o) w).fault ≡ Some f →
      written plan (cond b (judged p w o) w) ≡ written plan w
  judged_writes p w (Some g) f true fine e = refl
  judged_writes p w None f true fine e = absurd (let z = sym fine ∙ e in cc)
  judged_writes p w o f false fine e = refl

  outcome_writes : (line : ℕ) (w : Progress) (o : Outcome) (f : Fault) → w.fault ≡ None → IsGoing (length plan.streams) w → OnTaken (Goes (length plan.streams) w.after) o →
      (went_on plan policy line w o).fault ≡ Some f → written plan (went_on plan policy line w o) ≡ written plan w
  outcome_writes line w (Taken a) f fine g goes e =
      judged_writes (allowed policy (length plan.streams) a) (record w { after = a }) (overflow (rows a) plan.nodes (allowed policy (length plan.streams) a)) f (nat_lt w.last (allowed policy (length plan.streams) a)) fine e
      ∙ written_after plan ordered levelled w a g goes
  outcome_writes line w (WasLate time bound) f fine g goes e = refl
  outcome_writes line w Unmatched f fine g goes e = refl

  -- the line at which the first fault comes adds nothing to the text, also where it was taken and made a punctuation due at
  -- which a node is undefined
  pub fault_writes_nothing : (w : Progress) (line : Told) (f : Fault) → IsGoing (length plan.streams) w → IsRead (length plan.streams) line.read → w.fault ≡ None →
      (step plan policy w line).fault ≡ Some f → written plan (step plan policy w line) ≡ written plan w
  fault_writes_nothing w line f g valid fine e =
      let s : step plan policy w line ≡ reading plan policy line.number w line.read = ap (λ x. unless_fault x w (reading plan policy line.number w line.read)) fine in
      ap (written plan) s ∙ go line.read valid (ap (λ x. x.fault) (sym s) ∙ e)
    where
      go : (r : Read) → IsRead (length plan.streams) r → (reading plan policy line.number w r).fault ≡ Some f → written plan (reading plan policy line.number w r) ≡ written plan w
      go (Ok entry) v h = outcome_writes line.number w (admit policy w.after entry) f fine g (admit_goes policy (length plan.streams) w.after entry g.sound v) h
      go (Err cause) v h = refl

  pub text_stays : (print : Item → List ℕ) (lines : List Told) (line : Told) (f : Fault) → AreRead (length plan.streams) (lines ++ line ∷ []) →
      fault plan policy lines false ≡ None → fault plan policy (lines ++ line ∷ []) false ≡ Some f →
      text print plan policy (lines ++ line ∷ []) false ≡ text print plan policy lines false
  text_stays print lines line f valid fine e =
      let r = read_front (length plan.streams) lines line valid in
      let w = steps plan policy start lines in
      let g = (steps_grow plan ordered levelled policy start lines r.0 (start_going (length plan.streams))).going in
      let s : steps plan policy start (lines ++ line ∷ []) ≡ step plan policy w line = steps-append plan policy start lines (line ∷ []) in
      ap (flat_map print) (ap (written plan) s ∙ fault_writes_nothing w line f g r.1 fine (ap (λ x. x.fault) (sym s) ∙ e))
