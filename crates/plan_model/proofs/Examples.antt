-- Changes of a few events over a dozen instants, worked out.
use Rattle.std.specs.Prelude.{◌≡◌, ℤ, pos, ℕ, List, [], ◌∷◌, refl}
use Rattle.tw_rows.specs.Event.{Event, alive}
use Rattle.tw_rows.specs.Instant.{inf}
use Rattle.tw_rows.specs.Rows.{Row}
use Rattle.tw_rows.specs.declared.row.Value.TheVariants.{Int}
use Rattle.plan_model.specs.Changes.{Line, Started, Ended, changes_at, changes}

-- a row of one int
abbrev of_int : ℤ → Row
of_int x = Int x ∷ []

-- an event of that row with the life [start, end)
abbrev event : ℤ → ℕ → ℕ → Event Row
event x start end = record { row = of_int x; start = start; end = end }

abbrev first_dozen : List (Event Row) → List Line
first_dozen events = changes (alive events) 0 12

a_row_within_another : first_dozen (event (pos 12) 1 5 ∷ event (pos 7) 2 4 ∷ [])
    ≡ Started 1 (of_int (pos 12)) ∷ Started 2 (of_int (pos 7)) ∷ Ended 4 2 (of_int (pos 7)) ∷ Ended 5 1 (of_int (pos 12)) ∷ []
unfolding changes_at changes
a_row_within_another = refl

-- the first of two equal rows to end names the first that started
two_equal_rows : first_dozen (event (pos 5) 1 9 ∷ event (pos 5) 3 6 ∷ [])
    ≡ Started 1 (of_int (pos 5)) ∷ Started 3 (of_int (pos 5)) ∷ Ended 6 1 (of_int (pos 5)) ∷ Ended 9 3 (of_int (pos 5)) ∷ []
unfolding changes_at changes
two_equal_rows = refl

touching_lives_are_one : first_dozen (event (pos 5) 1 3 ∷ event (pos 5) 3 5 ∷ []) ≡ Started 1 (of_int (pos 5)) ∷ Ended 5 1 (of_int (pos 5)) ∷ []
unfolding changes_at changes
touching_lives_are_one = refl

a_row_that_never_ends : first_dozen (event (pos 5) 2 inf ∷ []) ≡ Started 2 (of_int (pos 5)) ∷ []
unfolding changes_at changes inf
a_row_that_never_ends = refl

-- at one instant the end stands first, though its row is the greater, and the starts stand in row order
ends_before_starts : first_dozen (event (pos 9) 1 4 ∷ event (pos 7) 4 6 ∷ event (pos 2) 4 6 ∷ [])
    ≡ Started 1 (of_int (pos 9)) ∷ Ended 4 1 (of_int (pos 9)) ∷ Started 4 (of_int (pos 2)) ∷ Started 4 (of_int (pos 7))
    ∷ Ended 6 4 (of_int (pos 2)) ∷ Ended 6 4 (of_int (pos 7)) ∷ []
unfolding changes_at changes
ends_before_starts = refl

no_events_no_lines : first_dozen [] ≡ []
unfolding changes_at changes
no_events_no_lines = refl
