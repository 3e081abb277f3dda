-- The definitions, worked out on a few rows and edges.
use Rattle.std.specs.Prelude.{◌≡◌, ℕ, pos, Bool, true, false, Some, None, List, [], ◌∷◌, refl}
use Rattle.std.proofs.Common.{inl, inr, arith}
use Rattle.tw_rows.specs.Instant.{inf}
use Rattle.tw_rows.specs.SameCells.{same_cells}
use Rattle.tw_rows.specs.declared.cells.Datum.{Datum}
use Rattle.tw_rows.specs.declared.cells.Datum.TheVariants.{Int}
use Rattle.tw_rows.specs.declared.edge.Edge.{Edge}
use Rattle.tw_rows.specs.declared.edge.HeldRow.{HeldRow}
use Rattle.edge_history.specs.History.{CellEvent}
use Rattle.edge_history.specs.Opens.{opens}
use Rattle.key_nodes.specs.Joins.{joined}
use Rattle.sweep_laws.specs.Sweeps.{IsNext, InOrder}
use Rattle.sweep_laws.specs.Moves.{Moves}
use Rattle.sweep_laws.specs.Pairs.{pairs, pairs_told}
use Rattle.sweep_laws.specs.Running.{Run, tells, goes, kept, begun_at}
use Rattle.sweep_laws.specs.Sessioning.{is_gap, kept_last}
use Rattle.sweep_laws.specs.Clipping.{starts_at, is_clipped}
use Rattle.sweep_laws.specs.Antijoining.{judged, run_since, end_of, flip_of, begin_of, stays_of}

abbrev one : List Datum
one = Int (pos 1) ∷ []

abbrev two : List Datum
two = Int (pos 2) ∷ []

abbrev edge : List Datum → ℕ → ℕ → Edge
edge cells sync other = record { sync = sync; other = other; cells = cells }

abbrev held : List Datum → ℕ → HeldRow
held cells start = record { cells = cells; start = start }

abbrev run : List Datum → ℕ → Run
run row start = record { row = row; start = start }

abbrev life : List Datum → ℕ → ℕ → CellEvent
life row start end = record { row = row; start = start; end = end }

-- the next instant of two lists is the lesser of their first syncs, also where one list is empty
the_lesser_is_next : IsNext 4 (edge one 4 inf ∷ edge one 7 4 ∷ []) (edge two 6 inf ∷ [])
the_lesser_is_next = record { left_from = omega arith; right_from = omega arith; found = inl refl }

the_only_one_is_next : IsNext 6 [] (edge two 6 inf ∷ [])
the_only_one_is_next = record { left_from = tt; right_from = omega arith; found = inr refl }

the_greater_is_not_next : ¬ (IsNext 6 (edge one 4 inf ∷ []) (edge two 6 inf ∷ []))
the_greater_is_not_next h = let a = h.left_from in omega (arith, a)

-- an answer up to rank 10: ends at 5 stand in it, and starts at 5 do not
an_end_at_five : InOrder 10 (edge one 3 inf ∷ edge one 5 3 ∷ [])
unfolding inf
an_end_at_five = record { rises = (omega arith, (omega arith, tt)); below = refl }

a_start_at_five : ¬ (InOrder 10 (edge one 5 inf ∷ []))
unfolding inf
a_start_at_five h = let a = h.below in omega (arith, a)

-- a row that leaves is told by its end, one that comes by its start, and one that stays by nothing
moves_of_two_rows : Moves 5 (held one 3 ∷ held two 4 ∷ []) (held two 4 ∷ held one 5 ∷ []) [] (edge one 5 3 ∷ edge one 5 inf ∷ [])
moves_of_two_rows = record { weigh = λ w. omega arith }

-- pairs begin with the later of their rows; equal rows give a pair each
abbrev all : List Datum → List Datum → Bool
all a b = true

abbrev first : List Datum → List Datum → List Datum
first a b = a

pairs_of_rows : pairs all first (held one 3 ∷ []) (held two 1 ∷ held two 4 ∷ held two 4 ∷ []) ≡ held one 3 ∷ held one 4 ∷ held one 4 ∷ []
pairs_of_rows = refl

pairs_are_open : opens 6 (joined all first (life one 3 6 ∷ []) (life two 1 5 ∷ life two 4 9 ∷ [])) ≡ held one 4 ∷ []
pairs_are_open = refl

ends_of_pairs : pairs_told all first true false 5 (held two 1 ∷ []) (held one 3 ∷ []) ≡ edge one 5 3 ∷ []
ends_of_pairs = refl

-- a run that goes on is told neither way, another row ends it and begins one, and no row ends it
same_row_goes_on : tells 5 (Some one) (Some (run one 3)) ≡ []
unfolding same_cells
same_row_goes_on = refl

another_row_is_told : tells 5 (Some two) (Some (run one 3)) ≡ edge one 5 3 ∷ edge two 5 inf ∷ []
unfolding same_cells
another_row_is_told = refl

another_row_goes : goes 5 (Some two) (Some (run one 3)) ≡ Some (run two 5)
unfolding same_cells
another_row_goes = refl

no_row_is_told : tells 5 None (Some (run one 3)) ≡ edge one 5 3 ∷ []
no_row_is_told = refl

ends_and_then_starts : begun_at 5 (Some two) (kept (Some two) (Some (run one 3))) ≡ Some (run two 5)
unfolding same_cells
ends_and_then_starts = refl

-- with timeout 5 the starts 1 and 4 have a gap at 9 alone, and a gap of the timeout ends the session
gap_of_starts : is_gap 5 (1 ∷ 4 ∷ []) 9 ∷ is_gap 5 (1 ∷ 4 ∷ []) 6 ∷ is_gap 5 (1 ∷ 4 ∷ 9 ∷ []) 9 ∷ [] ≡ true ∷ false ∷ true ∷ []
gap_of_starts = refl

-- a last start is kept until its timeout has passed, and there is none of a key without a session
last_starts_kept : kept_last 5 8 (Some 4) ∷ kept_last 5 9 (Some 4) ∷ kept_last 5 9 None ∷ [] ≡ Some 4 ∷ None ∷ None ∷ []
last_starts_kept = refl

-- a start at the row's own start or at t does not clip before t
clipped_rows : is_clipped all (life two 5 9 ∷ []) 6 (held one 3) ∷ is_clipped all (life two 3 9 ∷ []) 6 (held one 3) ∷ is_clipped all (life two 6 9 ∷ []) 6 (held one 3) ∷ []
    ≡ true ∷ false ∷ false ∷ []
clipped_rows = refl

starts_there : starts_at all (life two 6 9 ∷ []) one 6 ≡ true
starts_there = refl

-- a key that stays free keeps the time since which it is, and one that is not free has none
judged_keys : judged true 7 (Some 5) ∷ judged true 7 None ∷ judged false 7 (Some 5) ∷ [] ≡ Some 5 ∷ Some 7 ∷ None ∷ []
judged_keys = refl

-- a row's run begins with the later of its start and that time
runs_of_rows : run_since (Some 5) (held one 3) ∷ run_since (Some 2) (held one 3) ∷ run_since None (held one 3) ∷ []
    ≡ Some (run one 5) ∷ Some (run one 3) ∷ None ∷ []
runs_of_rows = refl

-- of a row that stays its run ends where the key is free no more, a run starts where it is free again, and else nothing is told
flips_of_rows : flip_of false (Some 5) 7 (held one 3) ≡ edge one 7 5 ∷ []
flips_of_rows = refl

free_again : flip_of true None 7 (held one 3) ≡ edge one 7 inf ∷ []
free_again = refl

still_free : flip_of true (Some 5) 7 (held one 3) ≡ []
still_free = refl

starts_of_rows : begin_of true 7 (held one 7) ≡ edge one 7 inf ∷ []
starts_of_rows = refl

ends_of_rows : end_of None 7 (held one 3) ≡ []
ends_of_rows = refl

-- a row that ends at t does not stay, nor does one that starts there
rows_that_stay : stays_of 5 (life one 3 6) ≡ held one 3 ∷ []
rows_that_stay = refl

rows_that_end : stays_of 5 (life one 3 5) ≡ []
rows_that_end = refl
