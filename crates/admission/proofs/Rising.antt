-- Punctuations rise, each to what the bounds and marks then allow.
use Rattle.std.specs.Prelude.{◌≡◌, ℕ, zero, suc, ◌<◌, ◌≤◌, max, nat_lt, Bool, true, false, cond, List, [], ◌∷◌, ◌++◌, length, Option, Some, None, Ok, Err, refl}
use Rattle.std.proofs.Common.{sym, ◌∙◌, ap, arith}
use Rattle.std.proofs.lemmas.Bool.{ltb-true, le-ltb}
use Rattle.std.proofs.lemmas.Bool.Decides.{nat_tests}
use Rattle.tw_rows.specs.Instant.{inf}
use Rattle.plan_model.specs.IsPlan.{PlanParts, IsPlan}
use Rattle.plan_model.proofs.Kept.{IsPlan-ordered}
use Rattle.plan_model.proofs.Levels.{IsPlan-levelled}
use Rattle.plan_laws.specs.Undefined.{Overflow, overflow}
use Rattle.row_reader.specs.Entry.{Read}
use Rattle.row_reader.specs.declared.entry.Entry.TheVariants.{Skip}
use Rattle.admission.specs.declared.policy.Policy.{Policy}
use Rattle.admission.specs.Admission.{Outcome, Taken, WasLate, Unmatched, admit, rows, least, allowed}
use Rattle.admission.specs.Entries.{Told, AreRead}
use Rattle.admission.specs.Keeping.{IsGoing, RiseAbove}
use Rattle.admission.specs.Progress.{Fault, Progress, start, judged, punctuated, went_on, reading, unless_fault, step, at_end, steps, progress, fault}
use Rattle.admission.proofs.Finality.{rise_more, start_going, steps-append, steps_grow}
use Rattle.admission.proofs.Steps.{floor_below}

pub lines_going : (plan : PlanParts) → IsPlan plan → (policy : Policy) (lines : List Told) → AreRead (length plan.streams) lines →
    IsGoing (length plan.streams) (progress plan policy lines false)
lines_going plan is policy lines valid =
    (steps_grow plan (IsPlan-ordered plan is) (IsPlan-levelled plan is) policy start lines valid (start_going (length plan.streams))).going

end_rises : (plan : PlanParts) (w : Progress) → IsGoing (length plan.streams) w → RiseAbove 0 (at_end plan true w).dues
end_rises plan w g = go w.fault (nat_lt w.last inf) refl (overflow (rows w.after) plan.nodes inf)
  where
    go : (f : Option Fault) (b : Bool) → nat_lt w.last inf ≡ b → (o : Option Overflow) → RiseAbove 0 (unless_fault f w (cond b (judged inf w o) w)).dues
    go (Some fault) b e o = g.rise
    go None false e o = g.rise
    go None true e (Some fault) = g.rise
    go None true e None = rise_more 0 inf w.dues g.rise (let l = g.last in let t = ltb-true w.last inf e in omega arith)

pub dues_rise : (plan : PlanParts) → IsPlan plan → (policy : Policy) (lines : List Told) (ended : Bool) → AreRead (length plan.streams) lines →
    RiseAbove 0 (progress plan policy lines ended).dues
dues_rise plan is policy lines false valid = (lines_going plan is policy lines valid).rise
dues_rise plan is policy lines true valid = end_rises plan (progress plan policy lines false) (lines_going plan is policy lines valid)

module _ (plan : PlanParts) (policy : Policy) where
  -- the last punctuation is the greater of the one before, and the one that is allowed
  abbrev IsLast : Progress → Progress → Type 0
  IsLast w v = v.last ≡ max w.last (allowed policy (length plan.streams) v.after)

  outcome_last : (line : ℕ) (w : Progress) (o : Outcome) → (went_on plan policy line w o).fault ≡ None → IsLast w (went_on plan policy line w o)
  outcome_last line w (Taken a) = go (allowed policy (length plan.streams) a) refl (nat_lt w.last (allowed policy (length plan.streams) a)) refl (overflow (rows a) plan.nodes (allowed policy (length plan.streams) a))
    where
      go : (p : ℕ) → p ≡ allowed policy (length plan.streams) a → (b : Bool) → nat_lt w.last p ≡ b → (o : Option Overflow) →
          (cond b (judged p (record w { after = a }) o) (record w { after = a })).fault ≡ None → IsLast w (cond b (judged p (record w { after = a }) o) (record w { after = a }))
      go p is true e None h = (let t = ltb-true w.last p e in omega (arith, is, t))
      go p is true e (Some o) h = absurd (let z = h in cc)
      go p is false e o h = (let t : p ≤ w.last = grind (arith, nat_tests) in omega (arith, is, t))
  outcome_last line w (WasLate time bound) = λ h. absurd (let z = h in cc)
  outcome_last line w Unmatched = λ h. absurd (let z = h in cc)

  reading_last : (line : ℕ) (w : Progress) (r : Read) → (reading plan policy line w r).fault ≡ None → IsLast w (reading plan policy line w r)
  reading_last line w (Ok entry) h = outcome_last line w (admit policy w.after entry) h
  reading_last line w (Err cause) h = absurd (let z = h in cc)

  step_last : (w : Progress) (line : Told) → (step plan policy w line).fault ≡ None → IsLast w (step plan policy w line)
  step_last w line h = go w.fault refl h
    where
      go : (f : Option Fault) → w.fault ≡ f → (unless_fault f w (reading plan policy line.number w line.read)).fault ≡ None → IsLast w (unless_fault f w (reading plan policy line.number w line.read))
      go None e i = reading_last line.number w line.read i
      go (Some g) e i = absurd (let z = sym i ∙ e in cc)

  pub last_is : (lines : List Told) (line : Told) → fault plan policy (lines ++ line ∷ []) false ≡ None → IsLast (progress plan policy lines false) (progress plan policy (lines ++ line ∷ []) false)
  last_is lines line fine =
      let s : step plan policy (steps plan policy start lines) line ≡ steps plan policy start (lines ++ line ∷ []) = sym (steps-append plan policy start lines (line ∷ [])) in
      let h = step_last (steps plan policy start lines) line (ap (λ x. x.fault) s ∙ fine) in
      (rw s at h)

  -- unless there is a fault, no punctuation is due
  abbrev IsDone : Progress → Type 0
  IsDone w = w.fault ≡ None → allowed policy (length plan.streams) w.after ≤ w.last

  steps_done : (w : Progress) (lines : List Told) → IsDone w → IsDone (steps plan policy w lines)
  steps_done w [] h = h
  steps_done w (line ∷ lines) h = steps_done (step plan policy w line) lines (λ fine. (let l = step_last w line fine in omega (arith, l)))

  least_zero : (n : ℕ) → 0 < n → least n (λ s. 0) ≡ 0
  least_zero zero low = absurd (omega arith)
  least_zero (suc n) low = omega arith

  start_done : 0 < length plan.streams → IsDone start
  start_done low fine = (let l = least_zero (length plan.streams) low in let f = floor_below policy.period 0 (omega arith) in rw l (grind (arith, nat_tests)))

  skip_step : (w : Progress) (number : ℕ) → IsDone w → step plan policy w (record { number = number; read = Ok Skip }) ≡ w
  skip_step w number done = go w.fault refl
    where
      go : (f : Option Fault) → w.fault ≡ f → unless_fault f w (punctuated plan (allowed policy (length plan.streams) w.after) w) ≡ w
      go None e = (let t = le-ltb w.last (allowed policy (length plan.streams) w.after) (done e) in ap (λ b. cond b (judged (allowed policy (length plan.streams) w.after) w (overflow (rows w.after) plan.nodes (allowed policy (length plan.streams) w.after))) w) t)
      go (Some g) e = refl

  pub skip_stays : (lines : List Told) (number : ℕ) → 0 < length plan.streams →
      progress plan policy (lines ++ record { number = number; read = Ok Skip } ∷ []) false ≡ progress plan policy lines false
  skip_stays lines number low =
      steps-append plan policy start lines (record { number = number; read = Ok Skip } ∷ [])
      ∙ skip_step (steps plan policy start lines) number (steps_done start lines (start_done low))
