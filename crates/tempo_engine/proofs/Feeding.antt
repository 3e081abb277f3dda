-- One line more, and the end of the lines: what they make of the progress, the fault and the text.
use Rattle.std.specs.Prelude.{◌≡◌, ℕ, ◌<◌, ◌≤◌, true, false, cond, List, [], ◌∷◌, ◌++◌, length, flat_map, Option, Some, None, Ok, Err}
use Rattle.std.proofs.Common.{sym, ◌∙◌, ap, le_trans}
use Rattle.std.proofs.lemmas.Bool.{lt-ltb, le-ltb}
use Rattle.std.proofs.lemmas.List.Concat.{flat_map-append}
use Rattle.tw_rows.specs.Instant.{inf}
use Rattle.plan_model.specs.IsPlan.{PlanParts, IsPlan}
use Rattle.plan_model.specs.Meaning.{closes}
use Rattle.plan_model.proofs.Kept.{IsPlan-ordered}
use Rattle.plan_model.proofs.Levels.{IsPlan-levelled}
use Rattle.plan_laws.specs.Undefined.{Overflow, overflow}
use Rattle.row_reader.specs.declared.entry.Entry.{Entry}
use Rattle.row_reader.specs.declared.entry.BadLine.{BadLine}
use Rattle.row_reader.specs.declared.entry.BadLine.TheVariants.{NoStart}
use Rattle.admission.specs.declared.policy.Policy.{Policy}
use Rattle.admission.specs.Admission.{Admission, Taken, WasLate, Unmatched, admit, rows, allowed}
use Rattle.admission.specs.Entries.{Told, IsEntry, IsRead, AreRead}
use Rattle.admission.specs.Keeping.{Goes, IsGoing}
use Rattle.admission.specs.Progress.{Malformed, TooLate, Overflowed, Progress, start, judged, punctuated, went_on, reading, unless_fault, progress, fault}
use Rattle.admission.specs.Text.{Item, between, written, closed_up, text}
use Rattle.admission.proofs.Finality.{steps-append, written_after}
use Rattle.admission.proofs.Growing.{due_writes}
use Rattle.admission.proofs.Rising.{lines_going}
use Rattle.admission.proofs.Steps.{taken_goes, allowed_below}

pub read_more : (streams : ℕ) (lines : List Told) (line : Told) → AreRead streams lines → IsRead streams line.read → AreRead streams (lines ++ line ∷ [])
read_more streams [] line all one = (one, tt)
read_more streams (l ∷ lines) line all one = (all.0, read_more streams lines line all.1 one)

module _ (plan : PlanParts) (p : ℕ) (w : Progress) where
  pub quiet : p ≤ w.last → punctuated plan p w ≡ w
  quiet low = ap (λ b. cond b (judged p w (overflow (rows w.after) plan.nodes p)) w) (le-ltb w.last p low)

  pub loud : (o : Option Overflow) → w.last < p → overflow (rows w.after) plan.nodes p ≡ o → punctuated plan p w ≡ judged p w o
  loud o above is = ap (λ b. cond b (judged p w (overflow (rows w.after) plan.nodes p)) w) (lt-ltb w.last p above) ∙ ap (judged p w) is

-- what is written at a punctuation comes last
pub due_text : (print : Item → List ℕ) (plan : PlanParts) → IsPlan plan → (p : ℕ) (w : Progress) (bytes : List ℕ) →
    bytes ≡ flat_map print (between (rows w.after) plan (closed_up plan 0 w.dues) (closes plan.nodes plan.root p)) →
    flat_map print (written plan (judged p w None)) ≡ flat_map print (written plan w) ++ bytes
due_text print plan sound p w bytes is =
    ap (flat_map print) (due_writes plan sound w p)
    ∙ flat_map-append print (written plan w) (between (rows w.after) plan (closed_up plan 0 w.dues) (closes plan.nodes plan.root p))
    ∙ ap (λ x. flat_map print (written plan w) ++ x) (sym is)

-- lines without a fault, and one more
module _ (plan : PlanParts) (sound : IsPlan plan) (policy : Policy) (lines : List Told) (read : AreRead (length plan.streams) lines) (fine : fault plan policy lines false ≡ None)
    (line : Told) (valid : IsRead (length plan.streams) line.read) where
  abbrev before : Progress
  before = progress plan policy lines false

  abbrev next : Progress
  next = progress plan policy (lines ++ line ∷ []) false

  reads : next ≡ reading plan policy line.number before line.read
  reads = steps-append plan policy start lines (line ∷ []) ∙ ap (λ f. unless_fault f before (reading plan policy line.number before line.read)) fine

  pub bad_fault : (cause : BadLine) → line.read ≡ Err cause → next.fault ≡ Some (Malformed line.number cause)
  bad_fault cause says = ap (λ w. w.fault) (reads ∙ ap (reading plan policy line.number before) says)

  module _ (e : Entry) (says : line.read ≡ Ok e) where
    goes_on : next ≡ went_on plan policy line.number before (admit policy before.after e)
    goes_on = reads ∙ ap (reading plan policy line.number before) says

    pub late_fault : (time bound : ℕ) → admit policy before.after e ≡ WasLate time bound → next.fault ≡ Some (TooLate line.number time bound)
    late_fault time bound is = ap (λ w. w.fault) (goes_on ∙ ap (went_on plan policy line.number before) is)

    pub unmatched_fault : admit policy before.after e ≡ Unmatched → next.fault ≡ Some (Malformed line.number NoStart)
    unmatched_fault is = ap (λ w. w.fault) (goes_on ∙ ap (went_on plan policy line.number before) is)

    module _ (b : Admission) (takes : admit policy before.after e ≡ Taken b) where
      abbrev after : Progress
      after = record before { after = b }

      abbrev due : ℕ
      due = allowed policy (length plan.streams) b

      going : IsGoing (length plan.streams) before
      going = lines_going plan sound policy lines read

      pub goes : Goes (length plan.streams) before.after b
      goes = taken_goes policy (length plan.streams) before.after b e going.sound (let v : IsEntry (length plan.streams) e = (rw says at valid) in v) takes

      pub after_going : IsGoing (length plan.streams) after
      after_going = record {
        sound = goes.sound;
        low = going.low;
        below = λ s there. le_trans (going.below s there) (goes.bounds s);
        rise = going.rise;
        last = going.last;
      }

      pub due_below : (s : ℕ) → s < length plan.streams → due ≤ b.bound s
      due_below s there = allowed_below policy (length plan.streams) b s goes.sound there

      taken_step : next ≡ punctuated plan due after
      taken_step = goes_on ∙ ap (went_on plan policy line.number before) takes

      pub quiet_next : due ≤ before.last → next ≡ after
      quiet_next low = taken_step ∙ quiet plan due after low

      pub loud_next : (p : ℕ) (o : Option Overflow) → due ≡ p → before.last < p → overflow (rows b) plan.nodes p ≡ o → next ≡ judged p after o
      loud_next p o is above fits = taken_step ∙ ap (λ q. punctuated plan q after) is ∙ loud plan p after o above fits

      same_text : (print : Item → List ℕ) → flat_map print (written plan after) ≡ text print plan policy lines false
      same_text print = ap (flat_map print) (written_after plan (IsPlan-ordered plan sound) (IsPlan-levelled plan sound) before b going goes)

      pub quiet_text : (print : Item → List ℕ) → due ≤ before.last → text print plan policy (lines ++ line ∷ []) false ≡ text print plan policy lines false
      quiet_text print low = ap (λ w. flat_map print (written plan w)) (quiet_next low) ∙ same_text print

      pub loud_text : (print : Item → List ℕ) (p : ℕ) (bytes : List ℕ) → due ≡ p → before.last < p → overflow (rows b) plan.nodes p ≡ None →
          bytes ≡ flat_map print (between (rows b) plan (closed_up plan 0 before.dues) (closes plan.nodes plan.root p)) →
          text print plan policy (lines ++ line ∷ []) false ≡ text print plan policy lines false ++ bytes
      loud_text print p bytes is above fits out =
          ap (λ w. flat_map print (written plan w)) (loud_next p None is above fits)
          ∙ due_text print plan sound p after bytes out
          ∙ ap (λ t. t ++ bytes) (same_text print)

      pub overflow_fault : (p : ℕ) (o : Overflow) → due ≡ p → before.last < p → overflow (rows b) plan.nodes p ≡ Some o → next.fault ≡ Some (Overflowed p o)
      overflow_fault p o is above fits = ap (λ w. w.fault) (loud_next p (Some o) is above fits)

-- lines without a fault are all of the input
module _ (plan : PlanParts) (sound : IsPlan plan) (policy : Policy) (lines : List Told) (fine : fault plan policy lines false ≡ None) where
  abbrev last : Progress
  last = progress plan policy lines false

  ends : progress plan policy lines true ≡ punctuated plan inf last
  ends = ap (λ f. unless_fault f last (punctuated plan inf last)) fine

  pub quiet_end : inf ≤ last.last → progress plan policy lines true ≡ last
  quiet_end low = ends ∙ quiet plan inf last low

  pub loud_end : (o : Option Overflow) → last.last < inf → overflow (rows last.after) plan.nodes inf ≡ o → progress plan policy lines true ≡ judged inf last o
  loud_end o above fits = ends ∙ loud plan inf last o above fits

  pub end_text : (print : Item → List ℕ) (bytes : List ℕ) → last.last < inf → overflow (rows last.after) plan.nodes inf ≡ None →
      bytes ≡ flat_map print (between (rows last.after) plan (closed_up plan 0 last.dues) (closes plan.nodes plan.root inf)) →
      text print plan policy lines true ≡ text print plan policy lines false ++ bytes
  end_text print bytes above fits out =
      ap (λ w. flat_map print (written plan w)) (loud_end None above fits) ∙ due_text print plan sound inf last bytes out

  pub end_overflow : (o : Overflow) → last.last < inf → overflow (rows last.after) plan.nodes inf ≡ Some o → fault plan policy lines true ≡ Some (Overflowed inf o)
  end_overflow o above fits = ap (λ w. w.fault) (loud_end (Some o) above fits)
