-- The list so far and the batches that are still to come are both lists.
use Rattle.std.proofs.Common.{◌≡◌, ◌+◌, ◌++◌}
use Rattle.edge_stream.proofs.carried.put_behind.Given as goal

abbrev pub invariant-loop-batch : goal.invariant-loop-batch
invariant-loop-batch l = record {
  edges : l.list.edges ++ l.later.edges ≡ l.fn.list.edges ++ l.fn.later.edges;
  batches : l.list.batches + l.later.batches ≡ l.fn.list.batches + l.fn.later.batches;
  kinds : l.list.kinds ≡ l.fn.list.kinds;
  capacity : l.list.capacity ≡ l.fn.list.capacity;
  later_kinds : l.later.kinds ≡ l.fn.later.kinds;
  later_capacity : l.later.capacity ≡ l.fn.later.capacity;
}

abbrev pub decreases-loop-batch : goal.decreases-loop-batch
decreases-loop-batch l = l.later.batches
