-- The numbers are those of the nodes so far.
use Rattle.std.proofs.Common.{◌≡◌, ℕ, ◌<◌, length, get_or}
use Rattle.dataflow.proofs.LastRead.{IsLast, ReadsNode, ReadsStream}
use Rattle.dataflow.proofs.readers.Readers.of.Given as goal

abbrev pub invariant-loop-i : goal.invariant-loop-i
invariant-loop-i l = record {
  nodes : length l.last.nodes.items ≡ length l.plan.nodes;
  streams : length l.last.streams.items ≡ length l.plan.streams;
  of_nodes : (k : ℕ) → k < length l.last.nodes.items → IsLast (ReadsNode l.plan k) l.i (get_or l.last.nodes.items k 0);
  of_streams : (s : ℕ) → s < length l.last.streams.items → IsLast (ReadsStream l.plan s) l.i (get_or l.last.streams.items s 0);
}
