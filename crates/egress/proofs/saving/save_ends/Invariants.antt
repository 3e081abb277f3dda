-- An entry was added for each of the edges before this one.
use Rattle.std.proofs.Common.{take}
use Rattle.synopsis.specs.Kept.{since_at}
use Rattle.egress.specs.Saved.{Taken}
use Rattle.egress.proofs.saving.save_ends.Given as goal

abbrev pub invariant-loop-edge : goal.invariant-loop-edge
invariant-loop-edge l = Taken l.at (take l.edge-index l.edges) l.fn.saved l.saved (since_at l.fn.starts) (since_at l.starts)
