-- Filters: what contracts see of one, and the rows that it leaves occupied.
use Rattle.std.specs.Prelude.{ℕ, ◌&&◌, List, map}
use Rattle.tw_rows.specs.Cells.{read_cells}
use Rattle.plan_model.specs.declared.expr.ExprNode.{ExprNode}
use Rattle.plan_model.specs.Expr.{holds}
use Rattle.batch.specs.Rows.{Row}
use Rattle.lane_expr.specs.Kernels.{Program}

-- the test, and how many rows a batch may have
pub record FilterView : Type 0 where
  pub test : Program
  pub capacity : ℕ

-- the rows, of which just those are occupied that were and at which the test is true
abbrev pub filtered : List (List ℕ) → List ExprNode → List Row → List Row
filtered texts test rows = map {A = Row} {B = Row} (λ r. record r { occupied = r.occupied && holds test (read_cells texts r.cells) }) rows
