-- The definitions, worked out on a few rows and edges.
use Rattle.std.specs.Prelude.{◌≡◌, ℕ, pos, Some, None, [], ◌∷◌, refl}
use Rattle.tw_rows.specs.SameCells.{same_cells}
use Rattle.tw_rows.specs.declared.cells.Datum.TheVariants.{Int}
use Rattle.tw_rows.specs.declared.edge.HeldRow.{HeldRow}
use Rattle.edge_stream.specs.declared.saved.PartRow.TheVariants.{Left}
use Rattle.synopsis.specs.Queued.{queue_of}
use Rattle.coalesce_op.specs.Operating.{coalesce_row}

abbrev held : ℕ → ℕ → HeldRow
held n start = record { cells = Int (pos n) ∷ []; start = start }

-- a row from 1 and from 3 on, with another one in between
queue_of_a_row : queue_of (held 7 1 ∷ held 4 2 ∷ held 7 3 ∷ []) (Int (pos 7) ∷ []) ≡ 1 ∷ 3 ∷ []
unfolding same_cells
queue_of_a_row = refl

rows_of_parts : (coalesce_row 0 ≡ Some Left) × (coalesce_row 1 ≡ Some Left) × (coalesce_row 2 ≡ None)
rows_of_parts = (refl, refl, refl)
