use Rattle.std.proofs.Common.{◌≤◌, length}
use Rattle.std.specs.List.Sorted.{IsPermutation}
use Rattle.sweep_sides.proofs.endings.sift.Given as goal

abbrev pub invariant-loop-left : goal.invariant-loop-left
invariant-loop-left l = record { same : IsPermutation l.fn.ends l.ends; within : l.left ≤ length l.ends }

abbrev pub decreases-loop-left : goal.decreases-loop-left
decreases-loop-left l = l.left
