-- The entries so far, and those of the edges that are still to come, are those of the list.
use Rattle.std.proofs.Common.{◌≡◌, ◌++◌, length}
use Rattle.edge_stream.specs.Entries.{entries_of}
use Rattle.ingress.proofs.saving.save_queue.Given as goal

abbrev pub invariant-edges : goal.invariant-edges
invariant-edges l = l.saved ++ entries_of l.part l.cursor.edges ≡ l.fn.saved ++ entries_of l.part l.queue.edges

abbrev pub decreases-edges : goal.decreases-edges
decreases-edges l = length l.cursor.edges
