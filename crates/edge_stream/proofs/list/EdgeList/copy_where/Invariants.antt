-- The edges that are copied and those of the shard that are still to come are the list's of the shard.
use Rattle.std.proofs.Common.{◌≡◌, ◌++◌, length}
use Rattle.edge_stream.specs.Listing.{cells_of, IsFilled}
use Rattle.edge_stream.specs.Shards.{edges_in_shard}
use Rattle.edge_stream.specs.Taking.{batches_taken}
use Rattle.edge_stream.proofs.list.EdgeList.copy_where.Given as goal

abbrev pub invariant-loop-shard : goal.invariant-loop-shard
invariant-loop-shard l = record {
  edges : l.part.edges ++ edges_in_shard l.count l.key l.number l.cursor.edges ≡ edges_in_shard l.count l.key l.number l.self.edges;
  kinds : l.part.kinds ≡ l.self.kinds;
  capacity : l.part.capacity ≡ l.self.capacity;
  cells : l.cursor.kinds ≡ cells_of l.self;
  room : l.pools.capacity ≡ l.self.capacity;
  filled : IsFilled l.part;
  taken : l.pools ≡ batches_taken l.part.batches l.fn.pools (cells_of l.self);
}

abbrev pub decreases-loop-shard : goal.decreases-loop-shard
decreases-loop-shard l = length l.cursor.edges
