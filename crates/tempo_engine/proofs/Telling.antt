-- The fault that is told is the first fault of the lines.
use Rattle.std.specs.Prelude.{◌≡◌, ℕ, ◌<◌, true, false, List, [], ◌∷◌, ◌++◌, length, Some, None, Ok, Err, refl}
use Rattle.std.proofs.Common.{inl, inr}
use Rattle.tw_rows.specs.Instant.{inf}
use Rattle.plan_model.specs.IsPlan.{PlanParts, IsPlan}
use Rattle.plan_laws.specs.Undefined.{overflow}
use Rattle.row_reader.specs.Answers.{Answers}
use Rattle.row_reader.specs.declared.entry.Entry.{Entry}
use Rattle.row_reader.specs.declared.entry.RowFault.{RowFault}
use Rattle.row_reader.specs.declared.entry.RowFault.TheVariants as reading
use Rattle.admission.specs.declared.policy.Policy.{Policy}
use Rattle.admission.specs.Admission.{Admission, Taken, admit, rows, allowed}
use Rattle.admission.specs.Entries.{Told, IsRead, AreRead}
use Rattle.admission.specs.Progress.{progress, fault}
use Rattle.ingress.specs.Admits.{Refuses}
use Rattle.ingress.specs.declared.ingress.Refusal.{Refusal}
use Rattle.ingress.specs.declared.ingress.Refusal.TheVariants as refusals
use Rattle.dataflow.specs.declared.fault.PlanFault.{PlanFault}
use Rattle.dataflow.specs.declared.fault.PlanFault.TheVariants as stepping
use Rattle.tempo_engine.specs.Faults.{IsFaultOf, IsBadOf, unread, refused, undefined_at}
use Rattle.tempo_engine.specs.Output.{told}
use Rattle.tempo_engine.proofs.Feeding.{bad_fault, late_fault, unmatched_fault, overflow_fault, end_overflow}

module _ (plan : PlanParts) (sound : IsPlan plan) (policy : Policy) (lines : List Told) (read : AreRead (length plan.streams) lines) (fine : fault plan policy lines false ≡ None)
    (line : Told) (valid : IsRead (length plan.streams) line.read) where
  pub unread_told : (f : RowFault) → Answers (Err f) line.read → IsFaultOf (unread line.number f) (fault plan policy (lines ++ line ∷ []) false)
  unread_told (reading.Bad cause) says = bad_fault plan sound policy lines read fine line valid cause says
  unread_told reading.Memory says = tt

  module _ (e : Entry) (says : line.read ≡ Ok e) where
    pub refused_told : (f : Refusal) → Refuses (admit policy (progress plan policy lines false).after e) f → IsFaultOf (refused line.number f) (fault plan policy (lines ++ line ∷ []) false)
    refused_told (refusals.Late time bound) is = late_fault plan sound policy lines read fine line valid e says time bound is
    refused_told refusals.NoStart is = unmatched_fault plan sound policy lines read fine line valid e says is
    refused_told refusals.Memory is = tt

    pub undefined_told : (b : Admission) → admit policy (progress plan policy lines false).after e ≡ Taken b → (p : ℕ) → allowed policy (length plan.streams) b ≡ p → (progress plan policy lines false).last < p →
        (f : PlanFault) → ((node time : ℕ) → f ≡ stepping.Overflow node time → overflow (rows b) plan.nodes p ≡ Some (record { node = node; time = time })) →
        IsFaultOf (undefined_at p f) (fault plan policy (lines ++ line ∷ []) false)
    undefined_told b takes p is above (stepping.Overflow node time) tells =
        overflow_fault plan sound policy lines read fine line valid e says b takes p (record { node = node; time = time }) is above (tells node time refl)
    undefined_told b takes p is above stepping.Memory tells = tt

pub end_told : (plan : PlanParts) (sound : IsPlan plan) (policy : Policy) (lines : List Told) → fault plan policy lines false ≡ None → (progress plan policy lines false).last < inf →
    (f : PlanFault) → ((node time : ℕ) → f ≡ stepping.Overflow node time → overflow (rows (progress plan policy lines false).after) plan.nodes inf ≡ Some (record { node = node; time = time })) →
    IsFaultOf (undefined_at inf f) (fault plan policy lines true)
end_told plan sound policy lines fine above (stepping.Overflow node time) tells = end_overflow plan sound policy lines fine (record { node = node; time = time }) above (tells node time refl)
end_told plan sound policy lines fine above stepping.Memory tells = tt

-- a line that is told as bad is the line
module _ (plan : PlanParts) (number : ℕ) (line : List ℕ) where
  pub bad_unread : (f : RowFault) → Answers (Err f) (told plan number line).read → IsBadOf plan number line (unread number f)
  bad_unread (reading.Bad cause) says = (refl, inr says)
  bad_unread reading.Memory says = tt

  pub bad_refused : (f : Refusal) → IsBadOf plan number line (refused number f)
  bad_refused (refusals.Late time bound) = tt
  bad_refused refusals.NoStart = (refl, inl refl)
  bad_refused refusals.Memory = tt

  pub bad_undefined : (p : ℕ) (f : PlanFault) → IsBadOf plan number line (undefined_at p f)
  bad_undefined p (stepping.Overflow node time) = tt
  bad_undefined p stepping.Memory = tt
