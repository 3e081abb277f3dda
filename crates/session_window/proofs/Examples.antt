-- The definitions, worked out on a few rows and edges.
use Rattle.std.specs.Prelude.{◌≡◌, ℕ, pos, List, [], ◌∷◌, map, refl}
use Rattle.std.proofs.Common.{inr, arith}
use Rattle.tw_rows.specs.Instant.{inf}
use Rattle.tw_rows.specs.SameCells.{same_cells}
use Rattle.tw_rows.specs.declared.cells.Datum.{Datum}
use Rattle.tw_rows.specs.declared.cells.Datum.TheVariants.{Int}
use Rattle.tw_rows.specs.declared.edge.Edge.{Edge}
use Rattle.tw_rows.specs.declared.edge.HeldRow.{HeldRow}
use Rattle.edge_history.specs.History.{CellEvent}
use Rattle.edge_history.specs.Order.{many}
use Rattle.end_queue.specs.Pending.{Pending}
use Rattle.session_window.specs.Lasts.{IsLastStart}
use Rattle.session_window.specs.Kept.{is_for, keeps_to}
use Rattle.sweep_sides.specs.Starts.{starts_in}
use Rattle.session_window.specs.Windows.{windows}
use Rattle.session_window.specs.Holding.{IsNextTime}

abbrev one : List Datum
one = Int (pos 1) ∷ []

abbrev two : List Datum
two = Int (pos 2) ∷ []

abbrev life : List Datum → ℕ → ℕ → CellEvent
life row start end = record { row = row; start = start; end = end }

abbrev edge : List Datum → ℕ → ℕ → Edge
edge cells sync other = record { sync = sync; other = other; cells = cells }

abbrev held : List Datum → ℕ → HeldRow
held cells start = record { cells = cells; start = start }

abbrev entry : List Datum → ℕ → Pending
entry key at = record { at = at; edge = edge key at at }

-- with timeout 5, starts of a key at 1, 4 and 9: a gap equal to the timeout ends the first session, and another key ends none
windows_of_two_keys : map (λ (e : CellEvent). e.end) (windows (0 ∷ []) 5 (life one 1 2 ∷ life one 4 5 ∷ life one 9 10 ∷ life two 3 4 ∷ [])) ≡ 9 ∷ 9 ∷ 14 ∷ 8 ∷ []
unfolding inf same_cells
windows_of_two_keys = refl

-- of an interval the start is known, and of an end nothing
starts_of_edges : starts_in (edge one 3 5 ∷ edge two 4 2 ∷ []) ≡ edge one 3 inf ∷ []
starts_of_edges = refl

the_last_of_two_starts : IsLastStart 5 (held one 3 ∷ held one 5 ∷ [])
the_last_of_two_starts = record { there = omega arith; none_later = refl }

-- a row from 3 on keeps the session of its key open before 8, and not before 9
kept_before_eight : many (keeps_to 5 (0 ∷ []) one 8) (held one 3 ∷ held two 4 ∷ []) ≡ 1
unfolding inf same_cells
kept_before_eight = refl

not_kept_before_nine : many (keeps_to 5 (0 ∷ []) one 9) (held one 3 ∷ held two 4 ∷ []) ≡ 0
unfolding inf same_cells
not_kept_before_nine = refl

an_entry_of_one_key : many (is_for one) (entry one 8 ∷ entry two 9 ∷ []) ≡ 1
unfolding same_cells
an_entry_of_one_key = refl

-- the entry comes before the edge
the_next_time : IsNextTime 5 (edge one 7 inf ∷ []) (entry two 5 ∷ [])
the_next_time = record { of_edges = omega arith; of_ends = refl; found = inr (inr refl) }
