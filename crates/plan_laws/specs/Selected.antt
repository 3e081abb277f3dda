-- Edges of a Where and of a Select, by the edges that came in, row by row.
use Rattle.std.specs.Prelude.{◌≡◌, ℕ, List, map}
use Rattle.tw_rows.specs.Rows.{Row}
use Rattle.tw_rows.specs.Cells.{read_cells}
use Rattle.tw_rows.specs.declared.edge.Edge.{Edge}
use Rattle.edge_history.specs.Made.{edges_where}
use Rattle.plan_model.specs.declared.expr.ExprNode.{ExprNode}
use Rattle.plan_model.specs.Expr.{holds, selected_row}

-- an edge with a row of values: a start at 3 of the row `a`, 7
pub record RowEdge : Type 0 where
  pub sync : ℕ
  pub other : ℕ
  pub row : Row

-- the edge with its cells read through the table. With the text `a`, a start at 3 of the cells 0, 7 is one of the row
-- `a`, 7
abbrev pub read_edge : List (List ℕ) → Edge → RowEdge
read_edge texts e = record { sync = e.sync; other = e.other; row = read_cells texts e.cells }

-- the edge with its cells read, and the row replaced by the values of the items. Of the items column 1 and 5 the same
-- start is one of the row 7, 5
abbrev pub selected_edge : List (List ℕ) → List (List ExprNode) → Edge → RowEdge
selected_edge texts items e =
    record { sync = e.sync; other = e.other; row = selected_row items (read_cells texts e.cells) }

-- the edges of h whose rows, read, pass the test: of all edges those where column 0 is `a`, whatever its place
abbrev pub tested_edges : List (List ℕ) → List ExprNode → List Edge → List Edge
tested_edges texts test h = edges_where (λ cells. holds test (read_cells texts cells)) h

-- edge by edge, what is read of `out` has the values of the items on what is read of h, by whatever places
abbrev pub AreSelected : List (List ℕ) → List (List ExprNode) → List Edge → List Edge → Type 0
AreSelected texts items h out = map (read_edge texts) out ≡ map (selected_edge texts items) h
