-- The rows that a group tells.
use Rattle.std.specs.Prelude.{ℕ, Bool, Option, List}
use Rattle.tw_rows.specs.declared.cells.Datum.{Datum}
use Rattle.plan_laws.specs.Keeping.{plain_cells}
use Rattle.plan_model.specs.declared.agg.Agg.{Agg}
use Rattle.plan_model.specs.RowOps.{key_in, rows_of_key_in, row_of_group_in, is_undefined_group_in}

-- the data of a row in the key columns. Of the row 5, 6, 7 and the columns 2 and 0: 7, 5
abbrev pub key_data : List ℕ → List Datum → List Datum
key_data key row = key_in plain_cells key row

-- the row of the group of a key, and whether that group is undefined, among some rows
abbrev pub tell : List ℕ → List Agg → List Datum → List (List Datum) → Option (List Datum)
tell key aggs k rows = row_of_group_in plain_cells key aggs k rows

abbrev pub bad : List ℕ → List Agg → List Datum → List (List Datum) → Bool
bad key aggs k rows = is_undefined_group_in plain_cells aggs (rows_of_key_in plain_cells key k rows)
