-- The list so far and the edges that are still to come are both lists'.
use Rattle.std.proofs.Common.{◌≡◌, ◌++◌, length}
use Rattle.edge_stream.specs.Listing.{cells_of}
use Rattle.edge_stream.proofs.carried.copy_behind.Given as goal

abbrev pub invariant-loop-cursor : goal.invariant-loop-cursor
invariant-loop-cursor l = record {
  edges : l.list.edges ++ l.cursor.edges ≡ l.fn.list.edges ++ l.later.edges;
  kinds : l.list.kinds ≡ l.fn.list.kinds;
  capacity : l.list.capacity ≡ l.fn.list.capacity;
  cells : l.cursor.kinds ≡ cells_of l.fn.list;
  room : l.pools.capacity ≡ l.fn.pools.capacity;
  limit : l.pools.limit ≡ l.fn.pools.limit;
}

abbrev pub decreases-loop-cursor : goal.decreases-loop-cursor
decreases-loop-cursor l = length l.cursor.edges
