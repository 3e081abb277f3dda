-- The data of the steps that have run on a row.
use Rattle.std.specs.Prelude.{ℕ, false, List, [], map, slice_index_or}
use Rattle.tw_rows.specs.declared.cells.Datum.{Datum}
use Rattle.tw_rows.specs.declared.row.Value.{Value}
use Rattle.tw_rows.specs.Cells.{read_datum}
use Rattle.plan_model.specs.Expr.{zero_value}
use Rattle.batch.specs.Rows.{Row}

-- the value of the operand of that number, where `done` are the data of the steps so far
abbrev pub operand : List (List ℕ) → List Datum → ℕ → Value
operand texts done i = slice_index_or (map (read_datum texts) done) i zero_value

-- what stands where a row is missing
abbrev pub no_row : Row
no_row = record { sync = 0; other = 0; key = 0; hash = 0; cells = []; occupied = false }

-- the cells of the row at a place
abbrev pub cells_of : List Row → ℕ → List Datum
cells_of rows place = (slice_index_or rows place no_row).cells
