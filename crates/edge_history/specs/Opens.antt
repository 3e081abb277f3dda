-- The single edges of a list, and the rows that are open at a time.
use Rattle.std.specs.Prelude.{ℕ, ◌&&◌, ◌||◌, nat_eq, nat_lt, nat_le, not, Bool, cond, List, [], ◌∷◌, map, flat_map}
use Rattle.tw_rows.specs.Instant.{inf}
use Rattle.tw_rows.specs.SameCells.{same_cells}
use Rattle.tw_rows.specs.declared.cells.Datum.{Datum}
use Rattle.tw_rows.specs.declared.edge.Edge.{Edge}
use Rattle.tw_rows.specs.declared.edge.HeldRow.{HeldRow}
use Rattle.edge_history.specs.Order.{is_end}
use Rattle.edge_history.specs.History.{CellEvent}
use Rattle.edge_history.specs.Balance.{given, start_edge, end_edge}

-- an interval edge is a start and an end; each other edge is one of them. The interval [3, 5) is a start at 3 and an end at 5
abbrev pub singles_of : Edge → List Edge
singles_of e = cond (is_end e || nat_eq e.other inf) (e ∷ []) (start_edge (given e) ∷ end_edge (given e) ∷ [])

abbrev pub singles : List Edge → List Edge
singles h = flat_map singles_of h

-- the edge is no end
abbrev pub is_start : Edge → Bool
is_start e = not (is_end e)

-- the row of an event with its start, where it began before c and does not end before c: what is open just before c.
-- The lifetime [3, 5) is open at 4 and at 5, and neither at 3 nor at 6
abbrev pub open_of : ℕ → CellEvent → List HeldRow
open_of c e = cond (nat_lt e.start c && nat_le c e.end) (record { cells = e.row; start = e.start } ∷ []) []

abbrev pub opens : ℕ → List CellEvent → List HeldRow
opens c events = flat_map (open_of c) events

-- the row that an end edge takes out, and the row that a start edge puts in
abbrev pub ended_of : Edge → List HeldRow
ended_of x = cond (is_end x) (record { cells = x.cells; start = x.other } ∷ []) []

abbrev pub started_of : Edge → List HeldRow
started_of x = cond (is_end x) [] (record { cells = x.cells; start = x.sync } ∷ [])

abbrev pub ended_rows : List Edge → List HeldRow
ended_rows es = flat_map ended_of es

abbrev pub started_rows : List Edge → List HeldRow
started_rows es = flat_map started_of es

-- the row has these cells and this start
abbrev pub is_held : List Datum → ℕ → HeldRow → Bool
is_held cells start r = nat_eq r.start start && same_cells r.cells cells

-- the rows without their starts
abbrev pub bare : List HeldRow → List (List Datum)
bare rows = map (λ r. r.cells) rows

-- the row began before t; the row begins at t; the row began at t or before it
unfoldable pub is_early : ℕ → HeldRow → Bool
is_early t r = nat_lt r.start t

unfoldable pub is_new : ℕ → HeldRow → Bool
is_new t r = nat_eq r.start t

unfoldable pub is_in : ℕ → HeldRow → Bool
is_in t r = nat_le r.start t
