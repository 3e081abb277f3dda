-- What is made is made of the edges taken so far, which stand before those that are left. The stage, the kinds, the
-- capacities and the limit stay.
use Rattle.std.proofs.Common.{◌≡◌, ◌++◌, List, []}
use Rattle.tw_rows.specs.declared.edge.Edge.{Edge}
use Rattle.edge_stream.specs.Listing.{cells_of}
use Rattle.plan_model.specs.declared.node.Node.{Node}
use Rattle.plan_model.specs.IsPlan.{node_kinds}
use Rattle.plan_laws.specs.Places.{EdgesArePlaced}
use Rattle.where_select.specs.Made.{IsMade}
use Rattle.where_select.specs.Stages.{ArePlain, IsStageOf}
use Rattle.where_select.proofs.row_stage.RowStage.step.Given as goal

abbrev pub invariant-loop-batch : goal.invariant-loop-batch
invariant-loop-batch l = record {
  done : List Edge;
  parts : done ++ l.left.edges ≡ l.fn.left.edges;
  same : l.self ≡ l.fn.self;
  made : (n : Node) → IsStageOf l.texts l.fn.left.capacity (cells_of l.fn.left) n l.fn.self → IsMade l.texts n done l.made.edges;
  kinds : (n : Node) → IsStageOf l.texts l.fn.left.capacity (cells_of l.fn.left) n l.fn.self → cells_of l.made ≡ node_kinds n (cells_of l.fn.left) [];
  plain : ArePlain l.fn.left.kinds → ArePlain l.made.kinds;
  made_placed : EdgesArePlaced l.texts l.made.edges;
  left_placed : EdgesArePlaced l.texts l.left.edges;
  left_kinds : l.left.kinds ≡ l.fn.left.kinds;
  left_capacity : l.left.capacity ≡ l.fn.left.capacity;
  made_capacity : l.made.capacity ≡ l.fn.left.capacity;
  pools : l.pools.capacity ≡ l.fn.pools.capacity;
  limit : l.pools.limit ≡ l.fn.pools.limit;
}

abbrev pub decreases-loop-batch : goal.decreases-loop-batch
decreases-loop-batch l = l.left.batches
