-- What is answered, and what is still to be answered, are all answers.
use Rattle.std.proofs.Common.{◌≡◌, ◌++◌, length}
use Rattle.edge_stream.specs.Listing.{cells_of}
use Rattle.plan_laws.specs.Answers.{answered}
use Rattle.lifetime_ops.specs.declared.change.Change.TheVariants.{Mean}
use Rattle.lifetime_ops.specs.Nodes.{node_of, answer_kinds}
use Rattle.lifetime_ops.proofs.mean.means_of.Given as goal

abbrev pub invariant-loop-answer : goal.invariant-loop-answer
invariant-loop-answer l = record {
  edges : l.answer.edges ++ answered (node_of (Mean l.at)) l.cursor.edges ≡ answered (node_of (Mean l.at)) l.fn.due.edges;
  cells : l.cursor.kinds ≡ cells_of l.fn.due;
  kinds : cells_of l.answer ≡ answer_kinds (Mean l.at) (cells_of l.fn.due);
  capacity : l.answer.capacity ≡ l.fn.due.capacity;
  room : l.pools.capacity ≡ l.fn.pools.capacity;
  limit : l.pools.limit ≡ l.fn.pools.limit;
}

abbrev pub decreases-loop-answer : goal.decreases-loop-answer
decreases-loop-answer l = length l.cursor.edges
