-- A few inputs, worked out.
use Rattle.std.specs.Prelude.{◌≡◌, ℕ, pos, nat_eq, true, false, cond, List, [], ◌∷◌, ◌++◌, Some, None, Ok, refl}
use Rattle.tw_rows.specs.Instant.{inf}
use Rattle.tw_rows.specs.Rows.{Row}
use Rattle.tw_rows.specs.declared.row.Value.TheVariants.{Int}
use Rattle.tw_rows.specs.declared.schema.StreamDef.{StreamDef}
use Rattle.row_reader.specs.declared.form.Form.TheVariants.{Interval, Start, End}
use Rattle.plan_model.specs.declared.node.Node.TheVariants.{Source, Union}
use Rattle.plan_model.specs.Changes.{Started, Ended, changes_at, changes}
use Rattle.plan_model.specs.IsPlan.{PlanParts}
use Rattle.row_reader.specs.declared.entry.Entry.{Entry}
use Rattle.row_reader.specs.declared.entry.Entry.TheVariants.{Punct, Event}
use Rattle.row_reader.specs.declared.entry.BadLine.TheVariants.{NoStart}
use Rattle.admission.specs.declared.policy.Admitted.TheVariants.{Kept, Dropped, Emptied}
use Rattle.admission.specs.declared.policy.Lateness.{Lateness}
use Rattle.admission.specs.declared.policy.Lateness.TheVariants.{Refuse, Drop, Adjust}
use Rattle.admission.specs.declared.policy.Policy.{Policy}
use Rattle.admission.specs.Admission.{Admission, nothing, WasLate, admit, allowed}
use Rattle.admission.specs.Answers.{answer}
use Rattle.admission.specs.Bounds.{and_then, bound_by, mark_by, greatest}
use Rattle.admission.specs.Entries.{Told}
use Rattle.admission.specs.Progress.{Malformed, TooLate, fault}
use Rattle.admission.specs.Text.{Item, Changed, Closed, between, items}

abbrev of_int : ℕ → Row
of_int n = Int (pos n) ∷ []

abbrev line : ℕ → Entry → Told
line number entry = record { number = number; read = Ok entry }

abbrev interval : ℕ → ℕ → ℕ → ℕ → Entry
interval s start end n = Event s Interval start end (of_int n)

abbrev starts : ℕ → ℕ → Item
starts t n = Changed (Started t (of_int n))

abbrev ends : ℕ → ℕ → ℕ → Item
ends t s n = Changed (Ended t s (of_int n))

abbrev a_stream : StreamDef
a_stream = record { name = []; schema = [] }

abbrev one : PlanParts
one = record { streams = a_stream ∷ []; nodes = Source 0 ∷ []; schemas = []; root = 0 }

abbrev plain : Lateness → Policy
plain late = record { lateness = 0; late = late; period = 0 }

abbrev stepping : Lateness → Policy
stepping late = record { lateness = 5; late = late; period = 10 }

-- the lateness is 5, so after the start at 12 the bound is 7, and the start at 6 is late
abbrev five : List Told
five = line 1 (interval 0 3 20 1) ∷ line 2 (interval 0 12 20 2) ∷ line 3 (interval 0 8 20 3) ∷ line 4 (interval 0 6 20 4) ∷ line 5 (Punct None 30) ∷ []

refused : fault one (stepping Refuse) five false ≡ Some (TooLate 4 6 7)
unfolding inf
refused = refl

nothing_then : items one (stepping Refuse) five false ≡ []
unfolding inf between changes changes_at
nothing_then = refl

dropped : items one (stepping Drop) five false ≡ starts 3 1 ∷ starts 8 3 ∷ starts 12 2 ∷ ends 20 3 1 ∷ ends 20 12 2 ∷ ends 20 8 3 ∷ Closed 30 ∷ []
unfolding inf between changes changes_at
dropped = refl

adjusted : items one (stepping Adjust) five false ≡ starts 3 1 ∷ starts 7 4 ∷ starts 8 3 ∷ starts 12 2 ∷ ends 20 3 1 ∷ ends 20 12 2 ∷ ends 20 8 3 ∷ ends 20 7 4 ∷ Closed 30 ∷ []
unfolding inf between changes changes_at
adjusted = refl

-- an open start is written when a punctuation comes; an end that names another start matches none
abbrev unmatched : List Told
unmatched = line 1 (Event 0 Start 1 inf (of_int 1)) ∷ line 2 (Punct None 3) ∷ line 3 (Event 0 End 4 2 (of_int 1)) ∷ []

open_start : items one (plain Refuse) unmatched false ≡ starts 1 1 ∷ Closed 3 ∷ []
unfolding inf between changes changes_at
open_start = refl

no_start : fault one (plain Refuse) unmatched false ≡ Some (Malformed 3 NoStart)
unfolding inf
no_start = refl

-- a start at 4 and its end at 7, both late by the bound 10, make no row
adjusted_start : items one (plain Adjust) (line 1 (interval 0 10 12 2) ∷ line 2 (Event 0 Start 4 inf (of_int 1)) ∷ line 3 (Event 0 End 7 4 (of_int 1)) ∷ line 4 (Punct None 15) ∷ []) false
    ≡ starts 10 2 ∷ ends 12 10 2 ∷ Closed 15 ∷ []
unfolding inf between changes changes_at
adjusted_start = refl

-- after the punctuation at infinity each event is late
after_infinity : and_then (admit (plain Refuse) nothing (Punct None inf)) (λ a. admit (plain Refuse) a (Event 0 Start 9 inf (of_int 3))) ≡ WasLate 9 inf
unfolding inf
after_infinity = refl

-- two streams: a punctuation is due once both bounds allow it, and a punctuation of one stream leaves the bound of the other
abbrev both : PlanParts
both = record { streams = a_stream ∷ a_stream ∷ []; nodes = Source 0 ∷ Source 1 ∷ Union 0 1 ∷ []; schemas = []; root = 2 }

abbrev each : Policy
each = record { lateness = 0; late = Refuse; period = 10 }

abbrev three : List Told
three = line 1 (interval 0 25 30 1) ∷ line 2 (interval 1 5 8 2) ∷ line 3 (interval 1 14 16 3) ∷ []

abbrev up_to_ten : List Item
up_to_ten = starts 5 2 ∷ ends 8 5 2 ∷ Closed 10 ∷ []

after_three : items both each three false ≡ up_to_ten
unfolding inf between changes changes_at
after_three = refl

after_four : items both each (three ++ line 4 (Punct (Some 0) 40) ∷ []) false ≡ up_to_ten
unfolding inf between changes changes_at
after_four = refl

abbrev up_to_five : List Told
up_to_five = three ++ line 4 (Punct (Some 0) 40) ∷ line 5 (Punct (Some 1) 22) ∷ []

after_five : items both each up_to_five false ≡ up_to_ten ++ starts 14 3 ∷ ends 16 14 3 ∷ Closed 22 ∷ []
unfolding inf between changes changes_at
after_five = refl

late_sixth : fault both each (up_to_five ++ line 6 (interval 1 3 9 4) ∷ []) false ≡ Some (TooLate 6 3 22)
unfolding inf
late_sixth = refl

-- answers where the bound is 7: late lines are dropped or moved, and a life may be empty then
abbrev at_seven : Admission
at_seven = record { bound = λ s. 7; mark = λ s. 0; made = λ s. []; opens = record { stream = 0; row = of_int 1; given = 4; start = 7; dropped = true } ∷ [] }

is_dropped : answer (stepping Drop) at_seven (interval 0 6 20 4) ≡ Dropped
is_dropped = refl

is_kept : answer (stepping Adjust) at_seven (interval 0 6 20 4) ≡ Kept
is_kept = refl

is_emptied : answer (stepping Adjust) at_seven (interval 0 3 7 4) ≡ Emptied
is_emptied = refl

end_of_dropped : answer (stepping Drop) at_seven (Event 0 End 9 4 (of_int 1)) ≡ Dropped
end_of_dropped = refl

-- with the lateness 5, events of stream 1 at 12 and 3 and a punctuation of all streams at 4 make a bound of 7 and a mark of 4
abbrev some : List Entry
some = interval 1 12 20 1 ∷ interval 1 3 9 2 ∷ Punct None 4 ∷ []

bound_of_some : greatest (bound_by (stepping Drop) 1) some ≡ 7
bound_of_some = refl

mark_of_some : greatest (mark_by 1) some ≡ 4
mark_of_some = refl

-- with the period 10 the bounds 25 and 14 allow a punctuation at 10
allowed_of_two : allowed (stepping Drop) 2 (record { bound = λ s. cond (nat_eq s 0) 25 14; mark = λ s. 0; made = λ s. []; opens = [] }) ≡ 10
unfolding inf
allowed_of_two = refl
