-- Columns whose texts are in a table.
use Rattle.std.specs.Prelude.{◌≡◌, ℕ, ◌<◌, pos, true, false, Bool, List, length, slice_index_or}
use Rattle.tw_rows.specs.declared.cells.Datum.{Datum}
use Rattle.tw_rows.specs.declared.cells.Datum.TheVariants.{Int}
use Rattle.tw_rows.specs.Cells.{IsPlaced}

-- each cell whose row is occupied has its place in the table. With 2 texts the cells Text 1 and Text 7 are placed where only the first row is occupied
abbrev pub IsColumnPlaced : List (List ℕ) → List Bool → List Datum → Type 0
IsColumnPlaced texts occupied cells = (i : ℕ) → i < length cells → slice_index_or occupied i false ≡ true → IsPlaced texts (slice_index_or cells i (Int (pos 0)))
