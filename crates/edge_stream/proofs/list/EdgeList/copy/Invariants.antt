-- The edges that are copied and those that are still to come are the list's.
use Rattle.std.proofs.Common.{◌≡◌, ◌++◌, length}
use Rattle.edge_stream.specs.Listing.{cells_of, IsFilled}
use Rattle.edge_stream.specs.Taking.{batches_taken}
use Rattle.edge_stream.proofs.list.EdgeList.copy.Given as goal

abbrev pub invariant-loop-cursor : goal.invariant-loop-cursor
invariant-loop-cursor l = record {
  edges : l.copy.edges ++ l.cursor.edges ≡ l.self.edges;
  kinds : l.copy.kinds ≡ l.self.kinds;
  capacity : l.copy.capacity ≡ l.self.capacity;
  cells : l.cursor.kinds ≡ cells_of l.self;
  room : l.pools.capacity ≡ l.self.capacity;
  filled : IsFilled l.copy;
  taken : l.pools ≡ batches_taken l.copy.batches l.fn.pools (cells_of l.self);
}

abbrev pub decreases-loop-cursor : goal.decreases-loop-cursor
decreases-loop-cursor l = length l.cursor.edges
