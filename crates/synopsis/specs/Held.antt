-- Rows by the data in their key columns.
use Rattle.std.specs.Prelude.{◌≡◌, ◌<◌, ℕ, pos, Bool, true, List, map, length, get_or, slice_index_or}
use Rattle.tw_rows.specs.SameCells.{same_cells}
use Rattle.tw_rows.specs.declared.cells.Datum.{Datum}
use Rattle.tw_rows.specs.declared.cells.Datum.TheVariants.{Int}
use Rattle.tw_rows.specs.declared.edge.HeldRow.{HeldRow}
use Rattle.edge_history.specs.Opens.{is_held}

-- the datum of a row in a column. A column that is not there reads as the int 0
abbrev pub cell_or_zero : List Datum → ℕ → Datum
cell_or_zero cells column = slice_index_or cells column (Int (pos 0))

-- the data of a row in the key columns, in the order of the key. Of the row 5, 6, 7 and the columns 2 and 0: 7, 5
abbrev pub key_of : List ℕ → List Datum → List Datum
key_of key cells = map (cell_or_zero cells) key

-- the row has these data in its key. The row 5, 6, 7 has 7, 5 in the columns 2 and 0
abbrev pub is_of_key : List ℕ → List Datum → HeldRow → Bool
is_of_key key values r = same_cells (key_of key r.cells) values

-- key columns, and the data that a row has in them
pub record KeyValues : Type 0 where
  pub columns : List ℕ
  pub values : List Datum

-- key columns, rows, and the same rows key by key
pub record KeyedRows : Type 0 where
  pub key : List ℕ
  pub rows : List HeldRow
  pub blocks : List (List HeldRow)

-- a row with these cells and this start stands at the place
pub record IsPlace (cells : List Datum) (start : ℕ) (rows : List HeldRow) (i : ℕ) : Type 0 where
  pub within : i < length rows
  pub held : (d : HeldRow) → is_held cells start (get_or rows i d) ≡ true
