-- Tests and selects of cells, of which laws hold whatever they are.
use Rattle.std.specs.Prelude.{Bool, List}
use Rattle.tw_rows.specs.declared.cells.Datum.{Datum}
use Rattle.plan_model.specs.declared.expr.ExprNode.{ExprNode}

-- whether an expression holds of cells: of the expression `px > 3` over the cells 4 it is true
abbrev pub CellTest : Type 0
CellTest = List ExprNode → List Datum → Bool

-- the cells that items make of cells: of the items `px`, `px + 1` over the cells 4 they are 4, 5
abbrev pub CellSelect : Type 0
CellSelect = List (List ExprNode) → List Datum → List Datum
