-- Counts of rows in a map.
use Rattle.std.specs.Prelude.{ℕ, Option, Some, None, List, map}
use Rattle.indexmap.specs.IndexMap.{get, IndexMap}
use Rattle.tw_rows.specs.SameCells.{same_cells}
use Rattle.tw_rows.specs.declared.cells.Datum.{Datum}
use Rattle.synopsis.specs.declared.moves.Moves.{Moves}
use Rattle.synopsis.specs.declared.gathering.Counts.{Counts}

abbrev pub ends_if : Option Counts → ℕ
ends_if None = 0
ends_if (Some c) = c.ends

abbrev pub starts_if : Option Counts → ℕ
starts_if None = 0
starts_if (Some c) = c.starts

-- how often a row is counted
abbrev pub ends_at : {H : Type 0} → IndexMap (List Datum) Counts H → List Datum → ℕ
ends_at counts c = ends_if (get same_cells counts c)

abbrev pub starts_at : {H : Type 0} → IndexMap (List Datum) Counts H → List Datum → ℕ
starts_at counts c = starts_if (get same_cells counts c)

-- an entry as moves
abbrev pub as_moves : (List Datum × Counts) → Moves
as_moves e = record { cells = e.0; ends = e.1.ends; starts = e.1.starts }

-- a move of each row, which ends and starts so often
abbrev pub each_moves : ℕ → ℕ → List (List Datum) → List Moves
each_moves ends starts rows = map (λ c. record { cells = c; ends = ends; starts = starts }) rows
