-- The definitions, worked out on a few rows and edges.
use Rattle.std.specs.Prelude.{◌≡◌, ℕ, pos, true, false, List, [], ◌∷◌, map, refl}
use Rattle.tw_rows.specs.SameCells.{same_cells}
use Rattle.tw_rows.specs.declared.cells.Datum.{Datum}
use Rattle.tw_rows.specs.declared.cells.Datum.TheVariants.{Int}
use Rattle.tw_rows.specs.declared.edge.Edge.{Edge}
use Rattle.tw_rows.specs.declared.edge.HeldRow.{HeldRow}
use Rattle.edge_history.specs.History.{CellEvent}
use Rattle.edge_history.specs.Opens.{opens}
use Rattle.union_clip.specs.Clipped.{clips}
use Rattle.union_clip.specs.Leaving.{is_met, row_named}

-- a key and a number
abbrev row : ℕ → ℕ → List Datum
row key n = Int (pos key) ∷ Int (pos n) ∷ []

abbrev event : ℕ → ℕ → ℕ → ℕ → CellEvent
event key n start end = record { row = row key n; start = start; end = end }

abbrev edge : ℕ → ℕ → ℕ → ℕ → Edge
edge key n sync other = record { sync = sync; other = other; cells = row key n }

abbrev held : ℕ → ℕ → ℕ → HeldRow
held key n start = record { cells = row key n; start = start }

-- the key stands first on the left and second on the right. A start of the same instant clips nothing, nor one of another key
clipped_by_key : clips (0 ∷ []) (1 ∷ []) (event 5 1 3 20 ∷ event 6 1 3 20 ∷ []) (event 9 5 3 4 ∷ event 9 5 8 9 ∷ event 9 7 4 5 ∷ []) ≡ event 5 1 3 8 ∷ event 6 1 3 20 ∷ []
unfolding same_cells
clipped_by_key = refl

-- at 8 the row is open, and at 9 no more
open_up_to_the_start : opens 8 (clips (0 ∷ []) (1 ∷ []) (event 5 1 3 20 ∷ []) (event 9 5 8 9 ∷ [])) ≡ held 5 1 3 ∷ []
unfolding same_cells
open_up_to_the_start = refl

gone_after_the_start : opens 9 (clips (0 ∷ []) (1 ∷ []) (event 5 1 3 20 ∷ []) (event 9 5 8 9 ∷ [])) ≡ []
unfolding same_cells
gone_after_the_start = refl

met_by_key : map (is_met (0 ∷ []) (1 ∷ []) (edge 9 5 8 9 ∷ edge 9 6 8 9 ∷ [])) (held 5 1 3 ∷ held 7 1 3 ∷ []) ≡ true ∷ false ∷ []
unfolding same_cells
met_by_key = refl

named_by_an_end : row_named (edge 5 1 7 3) ≡ held 5 1 3
named_by_an_end = refl
