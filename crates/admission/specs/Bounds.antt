-- Bounds and marks as the greatest of what the entries say.
use Rattle.std.specs.Prelude.{ℕ, ◌-◌, max, nat_eq, cond, List, [], ◌∷◌, Option, Some, None, Ok, Err}
use Rattle.row_reader.specs.Entry.{Read}
use Rattle.row_reader.specs.declared.entry.Entry.{Entry}
use Rattle.row_reader.specs.declared.entry.Entry.TheVariants.{Skip, Punct, Event}
use Rattle.admission.specs.declared.policy.Policy.{Policy}
use Rattle.admission.specs.Entries.{Told}
use Rattle.admission.specs.Admission.{Admission, Outcome, Taken, admit}

-- what a punctuation says of the mark of stream s: its time, where it is of this stream or of all
abbrev pub time_for : ℕ → Option ℕ → ℕ → ℕ
time_for s None time = time
time_for s (Some k) time = cond (nat_eq s k) time 0

-- what an entry says of the bound of stream s, and 0 where it says nothing of it. With the lateness 5, an event of stream 1 at
-- 12 says 7 of the bound of stream 1
abbrev pub bound_by : Policy → ℕ → Entry → ℕ
bound_by policy s Skip = 0
bound_by policy s (Punct stream time) = time_for s stream time
bound_by policy s (Event k form sync other row) = cond (nat_eq s k) (sync - policy.lateness) 0

-- what an entry says of the mark of stream s
abbrev pub mark_by : ℕ → Entry → ℕ
mark_by s (Punct stream time) = time_for s stream time
mark_by s entry = 0

-- the greatest of the numbers of a list of entries, and 0 of none
abbrev pub greatest : (Entry → ℕ) → List Entry → ℕ
greatest f [] = 0
greatest f (e ∷ es) = max (f e) (greatest f es)

-- what an entry says of the bound where there is one stream alone
abbrev pub only_bound : Policy → Entry → ℕ
only_bound policy Skip = 0
only_bound policy (Punct stream time) = time
only_bound policy (Event k form sync other row) = sync - policy.lateness

abbrev pub and_then : Outcome → (Admission → Outcome) → Outcome
and_then (Taken a) next = next a
and_then refused next = refused

-- entries in order, up to the first that is refused
abbrev pub admit_all : Policy → List Entry → Admission → Outcome
admit_all policy [] a = Taken a
admit_all policy (e ∷ es) a = and_then (admit policy a e) (admit_all policy es)

-- the entries of lines, without those that are bad
abbrev pub with_entry : Read → List Entry → List Entry
with_entry (Ok e) es = e ∷ es
with_entry (Err cause) es = es

abbrev pub entries_of : List Told → List Entry
entries_of [] = []
entries_of (line ∷ lines) = with_entry line.read (entries_of lines)
