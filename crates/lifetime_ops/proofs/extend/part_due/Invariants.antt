-- What was made of the edges so far, and what is to be made of those that are still to come, are all.
use Rattle.std.proofs.Common.{◌≡◌, ◌+◌, ◌++◌, ℕ, length}
use Rattle.std.specs.Prelude.{All}
use Rattle.tw_rows.specs.Bag.{total}
use Rattle.tw_rows.specs.declared.edge.Edge.{Edge}
use Rattle.edge_history.specs.Order.{KeepsOrder}
use Rattle.edge_stream.specs.Listing.{cells_of}
use Rattle.plan_laws.specs.Extending.{extended_starts, extended_ends}
use Rattle.lifetime_ops.specs.Waiting.{edges_of_pending, IsWaitingEnd}
use Rattle.lifetime_ops.proofs.extend.part_due.Given as goal

abbrev pub invariant-loop-edge : goal.invariant-loop-edge
invariant-loop-edge l = record {
  starts : l.starts.edges ++ extended_starts l.by l.cursor.edges ≡ extended_starts l.by l.due.edges;
  ends : (w : Edge → ℕ) → total w (edges_of_pending l.ends) + total w (extended_ends l.by l.cursor.edges) ≡ total w (edges_of_pending l.fn.ends) + total w (extended_ends l.by l.due.edges);
  waiting : All (IsWaitingEnd (cells_of l.due)) l.ends;
  order : KeepsOrder l.cursor.edges;
  cells : l.cursor.kinds ≡ cells_of l.due;
  kinds : cells_of l.starts ≡ cells_of l.fn.starts;
  capacity : l.starts.capacity ≡ l.fn.starts.capacity;
  room : l.pools.capacity ≡ l.fn.pools.capacity;
  limit : l.pools.limit ≡ l.fn.pools.limit;
}

abbrev pub decreases-loop-edge : goal.decreases-loop-edge
decreases-loop-edge l = length l.cursor.edges
