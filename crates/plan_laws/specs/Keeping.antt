-- What an operator keeps of a node, from one step to the next.
use Rattle.std.specs.Prelude.{ℕ, false, List}
use Rattle.tw_rows.specs.declared.cells.Datum.{Datum}
use Rattle.tw_rows.specs.declared.edge.Edge.{Edge}
use Rattle.edge_history.specs.Order.{IsHistory}
use Rattle.edge_history.specs.History.{of}
use Rattle.edge_history.specs.Ahead.{ToldAhead}
use Rattle.edge_history.specs.Balance.{Told}
use Rattle.plan_model.specs.declared.node.Node.{Node}
use Rattle.plan_model.specs.Meaning.{node_closes}
use Rattle.plan_model.specs.CellOps.{cell_ops}
use Rattle.plan_model.specs.RowOps.{RowOps}
use Rattle.plan_model.specs.Nodes.{node_in}
use Rattle.plan_laws.specs.Places.{EdgesArePlaced}

-- what a node without expressions needs of rows of cells: as of no test and of no items
abbrev pub plain_cells : RowOps Datum
plain_cells = cell_ops (λ test row. false) (λ items row. row)

-- of the edges that came in, on the left below x and on the right below y, the edges that went out tell the node's
-- events below its closing. Of a Duration of 2, where a start at 3 came in and x is 4: that start; and the end at 5
-- once x is 6
pub record Keeps (ops : RowOps Datum) (node : Node) (texts : List (List ℕ)) (x y : ℕ)
    (left right out : List Edge) : Type 0 where
  pub left_history : IsHistory left
  pub right_history : IsHistory right
  pub left_placed : EdgesArePlaced texts left
  pub right_placed : EdgesArePlaced texts right
  pub told : Told (node_closes node x y) out (node_in ops node (of left) (of right))

-- the same where the edges that went out may tell ends ahead, by interval edges. Of the same Duration: below 4 the
-- interval edge from 3 to 5
pub record KeepsAhead (ops : RowOps Datum) (node : Node) (texts : List (List ℕ)) (x y : ℕ)
    (left right out : List Edge) : Type 0 where
  pub left_history : IsHistory left
  pub right_history : IsHistory right
  pub left_placed : EdgesArePlaced texts left
  pub right_placed : EdgesArePlaced texts right
  pub told : ToldAhead (node_closes node x y) out (node_in ops node (of left) (of right))
