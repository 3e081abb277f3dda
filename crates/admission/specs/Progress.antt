-- The lines in order, up to the first fault: what they give, which punctuations are due, and the fault.
use Rattle.std.specs.Prelude.{ℕ, nat_lt, Bool, true, false, cond, List, [], ◌∷◌, ◌++◌, length, Option, Some, None, Ok, Err}
use Rattle.tw_rows.specs.Instant.{inf}
use Rattle.plan_model.specs.IsPlan.{PlanParts}
use Rattle.plan_laws.specs.Undefined.{Overflow, overflow}
use Rattle.row_reader.specs.Entry.{Read}
use Rattle.row_reader.specs.declared.entry.BadLine.{BadLine}
use Rattle.row_reader.specs.declared.entry.BadLine.TheVariants.{NoStart}
use Rattle.admission.specs.declared.policy.Policy.{Policy}
use Rattle.admission.specs.Entries.{Told}
use Rattle.admission.specs.Admission.{Admission, nothing, Outcome, Taken, WasLate, Unmatched, admit, rows, allowed}

-- why no line is worked through any more: a line is bad, or late, with its sync and the bound of its stream; or at a
-- punctuation a node is undefined
pub data Fault : Type 0 where
  Malformed : (line : ℕ) → (cause : BadLine) → Fault
  TooLate : (line : ℕ) → (time : ℕ) → (bound : ℕ) → Fault
  Overflowed : (punctuation : ℕ) → (overflow : Overflow) → Fault

-- what the lines before the first fault give, with the line that made a punctuation due at which a node is undefined; the
-- punctuations that were due before it, and the last of them; and the fault
pub record Progress : Type 0 where
  pub after : Admission
  pub dues : List ℕ
  pub last : ℕ
  pub fault : Option Fault

-- before the first line
abbrev pub start : Progress
start = record { after = nothing; dues = []; last = 0; fault = None }

-- the punctuation p is due, unless a node is then undefined
abbrev pub judged : ℕ → Progress → Option Overflow → Progress
judged p w None = record w { dues = w.dues ++ p ∷ []; last = p }
judged p w (Some o) = record w { fault = Some (Overflowed p o) }

-- a punctuation becomes due where it is above the last one
abbrev pub punctuated : PlanParts → ℕ → Progress → Progress
punctuated plan p w = cond (nat_lt w.last p) (judged p w (overflow (rows w.after) plan.nodes p)) w

-- the line of that number was admitted or refused
abbrev pub went_on : PlanParts → Policy → ℕ → Progress → Outcome → Progress
went_on plan policy line w (Taken a) = punctuated plan (allowed policy (length plan.streams) a) (record w { after = a })
went_on plan policy line w (WasLate time bound) = record w { fault = Some (TooLate line time bound) }
went_on plan policy line w Unmatched = record w { fault = Some (Malformed line NoStart) }

-- the line of that number says this
abbrev pub reading : PlanParts → Policy → ℕ → Progress → Read → Progress
reading plan policy line w (Err cause) = record w { fault = Some (Malformed line cause) }
reading plan policy line w (Ok entry) = went_on plan policy line w (admit policy w.after entry)

-- nothing follows a fault
abbrev pub unless_fault : Option Fault → Progress → Progress → Progress
unless_fault None w next = next
unless_fault (Some fault) w next = w

-- one line more
abbrev pub step : PlanParts → Policy → Progress → Told → Progress
step plan policy w line = unless_fault w.fault w (reading plan policy line.number w line.read)

abbrev pub steps : PlanParts → Policy → Progress → List Told → Progress
steps plan policy w [] = w
steps plan policy w (line ∷ lines) = steps plan policy (step plan policy w line) lines

-- at the end of the input infinity is due
abbrev pub at_end : PlanParts → Bool → Progress → Progress
at_end plan false w = w
at_end plan true w = unless_fault w.fault w (punctuated plan inf w)

-- all that the lines give, which are all of the input or not yet
abbrev pub progress : PlanParts → Policy → List Told → Bool → Progress
progress plan policy lines ended = at_end plan ended (steps plan policy start lines)

-- the first fault of the lines, in the order of work
abbrev pub fault : PlanParts → Policy → List Told → Bool → Option Fault
fault plan policy lines ended = (progress plan policy lines ended).fault
