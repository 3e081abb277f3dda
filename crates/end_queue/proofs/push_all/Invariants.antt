-- The edges that were put so far, and those that are still to come, are all.
use Rattle.std.proofs.Common.{◌≡◌, ◌++◌, map}
use Rattle.end_queue.proofs.push_all.Given as goal

abbrev pub invariant-loop-edge : goal.invariant-loop-edge
invariant-loop-edge l = l.due.items ++ l.edge-iterator ≡ l.fn.due.items ++ map (λ e. e.1) l.fn.edges.entries
