-- What edges of one instant move, gathered row by row.
use Rattle.std.specs.Prelude.{◌≡◌, ℕ, ◌+◌, Bool, true, List, [], ◌∷◌, ◌++◌, map, All}
use Rattle.std.specs.List.{dedup}
use Rattle.std.specs.Ordering.{eq_by_cmp}
use Rattle.tw_rows.specs.Cells.{ArePlaced, read_cells}
use Rattle.tw_rows.specs.Rows.{Row, row_cmp}
use Rattle.tw_rows.specs.declared.cells.Datum.{Datum}
use Rattle.tw_rows.specs.declared.edge.Edge.{Edge}
use Rattle.edge_history.specs.Opens.{bare, ended_of, started_of, ended_rows, started_rows}
use Rattle.plan_model.specs.Opens.{how_often}
use Rattle.plan_laws.specs.Places.{EdgesArePlaced}
use Rattle.egress.specs.Kept.{ends_in, starts_in, rows_of, KeepCells}
use Rattle.egress.specs.declared.moves.Moves.{Moves}

-- the moves of the row of an edge, with these counts
abbrev pub with_counts : Edge → ℕ → ℕ → Moves
with_counts edge ends starts = record { cells = edge.cells; ends = ends; starts = starts }

-- the end of the edge was counted, if it is an end edge, and its start, if it is not
abbrev pub CountsEnds : List (List ℕ) → Edge → List Moves → List Moves → Type 0
CountsEnds texts edge old new = (r : Row) → ends_in texts new r ≡ ends_in texts old r + how_often r (map (read_cells texts) (bare (ended_of edge)))

abbrev pub CountsStarts : List (List ℕ) → Edge → List Moves → List Moves → Type 0
CountsStarts texts edge old new = (r : Row) → starts_in texts new r ≡ starts_in texts old r + how_often r (map (read_cells texts) (bare (started_of edge)))

-- the row of the edge is touched after those before it, and with the last of them where it is the same
abbrev pub TouchesRow : List (List ℕ) → Edge → List Moves → List Moves → Type 0
TouchesRow texts edge old new = (before : List Row) → All (λ m. ArePlaced texts m.cells) old → ArePlaced texts edge.cells →
    rows_of texts old ≡ dedup (eq_by_cmp row_cmp) before → rows_of texts new ≡ dedup (eq_by_cmp row_cmp) (before ++ read_cells texts edge.cells ∷ [])

-- no cells came but those of the edge
abbrev pub AddsCells : Edge → List Moves → List Moves → Type 0
AddsCells edge old new = (p : List Datum → Bool) → p edge.cells ≡ true → KeepCells p old → KeepCells p new

-- each row ends and starts as often as edges end and start it
abbrev pub AreEndsOf : List (List ℕ) → List Edge → List Moves → Type 0
AreEndsOf texts edges touched = (r : Row) → ends_in texts touched r ≡ how_often r (map (read_cells texts) (bare (ended_rows edges)))

abbrev pub AreStartsOf : List (List ℕ) → List Edge → List Moves → Type 0
AreStartsOf texts edges touched = (r : Row) → starts_in texts touched r ≡ how_often r (map (read_cells texts) (bare (started_rows edges)))

-- each row that edges beside each other are of is touched once
abbrev pub AreRowsOf : List (List ℕ) → List Edge → List Moves → Type 0
AreRowsOf texts edges touched = EdgesArePlaced texts edges → rows_of texts touched ≡ dedup (eq_by_cmp row_cmp) (map (λ e. read_cells texts e.cells) edges)
