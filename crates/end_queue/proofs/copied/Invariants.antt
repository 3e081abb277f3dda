-- The edges that are copied, and those of the entries that are still to come, are all.
use Rattle.std.proofs.Common.{◌≡◌, ◌++◌, map}
use Rattle.end_queue.proofs.copied.Given as goal

abbrev pub invariant-loop-edge : goal.invariant-loop-edge
invariant-loop-edge l = l.copy.items ++ map (λ e. e.1) l.edge-iterator ≡ map (λ e. e.1) l.edges.entries
