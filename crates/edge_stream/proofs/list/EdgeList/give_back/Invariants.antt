-- What is given back and what is still to be given make up the whole.
use Rattle.std.proofs.Common.{◌≡◌}
use Rattle.edge_stream.specs.Listing.{cells_of}
use Rattle.edge_stream.specs.Taking.{batches_given}
use Rattle.edge_stream.proofs.list.EdgeList.give_back.Given as goal

abbrev pub invariant-loop-batch : goal.invariant-loop-batch
invariant-loop-batch l = record {
  given : batches_given l.self.batches l.pools (cells_of l.fn.self) ≡ batches_given l.fn.self.batches l.fn.pools (cells_of l.fn.self);
  kinds : l.self.kinds ≡ l.fn.self.kinds;
  capacity : l.pools.capacity ≡ l.self.capacity;
}

abbrev pub decreases-loop-batch : goal.decreases-loop-batch
decreases-loop-batch l = l.self.batches
