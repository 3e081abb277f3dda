-- The edges before this one are in the list, in full batches but for the last one.
use Rattle.std.proofs.Common.{◌≡◌, take, map}
use Rattle.tw_rows.specs.Kinds.{cell_kind_of}
use Rattle.edge_stream.specs.Listing.{IsFilled}
use Rattle.edge_stream.specs.Taking.{batches_taken}
use Rattle.edge_stream.proofs.list.EdgeList.from_edges.Given as goal

abbrev pub invariant-loop-edge : goal.invariant-loop-edge
invariant-loop-edge l = record {
  edges : l.list.edges ≡ take l.edge-index l.edges;
  kinds : l.list.kinds ≡ l.kinds;
  capacity : l.list.capacity ≡ l.fn.pools.capacity;
  room : l.pools.capacity ≡ l.fn.pools.capacity;
  filled : IsFilled l.list;
  taken : l.pools ≡ batches_taken l.list.batches l.fn.pools (map cell_kind_of l.kinds);
}
