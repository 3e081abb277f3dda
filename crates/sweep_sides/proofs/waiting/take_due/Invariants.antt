use Rattle.std.proofs.Common.{length}
use Rattle.sweep_sides.proofs.Queued.{Taking}
use Rattle.sweep_sides.proofs.waiting.take_due.Given as goal

abbrev pub invariant-loop-edge : goal.invariant-loop-edge
invariant-loop-edge l = Taking l.to l.fn.queue l.queue l.due.items

abbrev pub decreases-loop-edge : goal.decreases-loop-edge
decreases-loop-edge l = length l.queue
