-- Rows of cells, in which a text is the place of one in a table.
use Rattle.std.specs.Prelude.{ℤ, pos, Bool, List}
use Rattle.tw_rows.specs.SameCells.{same_cells}
use Rattle.tw_rows.specs.declared.cells.Datum.{Datum}
use Rattle.tw_rows.specs.declared.cells.Datum.TheVariants.{Int, Bool as Flag, Text}
use Rattle.plan_model.specs.declared.expr.ExprNode.{ExprNode}
use Rattle.plan_model.specs.RowOps.{RowOps}

-- the int that a datum is. One of another kind reads as 0
abbrev pub datum_int : Datum → ℤ
datum_int (Int x) = x
datum_int (Flag b) = pos 0
datum_int (Text place) = pos 0

-- what nodes need of rows of cells. Tests and items are given, as a place has no text without a table
abbrev pub cell_ops : (List ExprNode → List Datum → Bool) → (List (List ExprNode) → List Datum → List Datum) → RowOps Datum
cell_ops holds select = record { zero = Int (pos 0); same = same_cells; int_of = datum_int; of_int = Int; holds = holds; select = select }
