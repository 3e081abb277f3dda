-- What is answered, and what is still to be answered, are all answers.
use Rattle.std.proofs.Common.{◌≡◌, ◌++◌}
use Rattle.lifetime_ops.specs.Times.{retimed}
use Rattle.lifetime_ops.specs.Nodes.{node_of}
use Rattle.lifetime_ops.proofs.alter_lifetime.retime.Given as goal

abbrev pub invariant-loop-batch : goal.invariant-loop-batch
invariant-loop-batch l = record {
  edges : l.answer.edges ++ retimed (node_of l.change) l.due.edges ≡ retimed (node_of l.change) l.fn.due.edges;
  kinds : l.answer.kinds ≡ l.fn.due.kinds;
  capacity : l.answer.capacity ≡ l.fn.due.capacity;
  due_kinds : l.due.kinds ≡ l.fn.due.kinds;
  due_capacity : l.due.capacity ≡ l.fn.due.capacity;
}

abbrev pub decreases-loop-batch : goal.decreases-loop-batch
decreases-loop-batch l = l.due.batches
