-- Which rows of two sides belong together, and what row they make, of which laws hold whatever they are.
use Rattle.std.specs.Prelude.{Bool, List}
use Rattle.tw_rows.specs.declared.cells.Datum.{Datum}

-- whether a row of the one side meets one of the other: by equal first columns the rows 1, 7 and 1, 9 do
abbrev pub RowTest : Type 0
RowTest = List Datum → List Datum → Bool

-- the row that a pair of rows makes: of these two the row 1, 7, 9, where the right one's first column is left out
abbrev pub RowPair : Type 0
RowPair = List Datum → List Datum → List Datum
