-- The edges that are merged and those that are still to come are both lists'; those that are merged come before what is to
-- come of each.
use Rattle.std.proofs.Common.{◌≡◌, ◌+◌, ◌++◌, ℕ, length}
use Rattle.tw_rows.specs.Bag.{total}
use Rattle.tw_rows.specs.declared.edge.Edge.{Edge}
use Rattle.edge_history.specs.Order.{KeepsOrder}
use Rattle.edge_stream.specs.Listing.{cells_of, IsFilled}
use Rattle.edge_stream.specs.Taking.{batches_taken}
use Rattle.edge_stream.proofs.whole.merged.Given as goal

abbrev pub invariant-loop-from_left : goal.invariant-loop-from_left
invariant-loop-from_left l = record {
  weigh : (w : Edge → ℕ) → total w l.list.edges + (total w l.left.edges + total w l.right.edges) ≡ total w l.a.edges + total w l.b.edges;
  left : KeepsOrder (l.list.edges ++ l.left.edges);
  right : KeepsOrder (l.list.edges ++ l.right.edges);
  kinds : l.list.kinds ≡ l.a.kinds;
  capacity : l.list.capacity ≡ l.a.capacity;
  left_cells : l.left.kinds ≡ cells_of l.a;
  right_cells : l.right.kinds ≡ cells_of l.a;
  room : l.pools.capacity ≡ l.a.capacity;
  filled : IsFilled l.list;
  taken : l.pools ≡ batches_taken l.list.batches l.fn.pools (cells_of l.a);
}

abbrev pub decreases-loop-from_left : goal.decreases-loop-from_left
decreases-loop-from_left l = length l.left.edges + length l.right.edges
