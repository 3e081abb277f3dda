-- The ends that are taken out, and those that still wait, are all that waited.
use Rattle.std.proofs.Common.{◌≡◌, ◌++◌, length}
use Rattle.std.specs.Prelude.{All}
use Rattle.edge_history.specs.Order.{failing, is_below}
use Rattle.edge_stream.specs.Listing.{cells_of}
use Rattle.lifetime_ops.specs.Waiting.{edges_of_pending, IsWaitingEnd}
use Rattle.lifetime_ops.proofs.extend.take_due.Given as goal

abbrev pub invariant-loop-edge : goal.invariant-loop-edge
invariant-loop-edge l = record {
  edges : edges_of_pending l.fn.ends ≡ l.due.edges ++ edges_of_pending l.ends;
  low : failing (is_below l.below) l.due.edges ≡ 0;
  waiting : All (IsWaitingEnd (cells_of l.like)) l.ends;
  kinds : l.due.kinds ≡ l.like.kinds;
  capacity : l.due.capacity ≡ l.like.capacity;
  room : l.pools.capacity ≡ l.fn.pools.capacity;
  limit : l.pools.limit ≡ l.fn.pools.limit;
}

abbrev pub decreases-loop-edge : goal.decreases-loop-edge
decreases-loop-edge l = length l.ends
