-- The stages so far have their pairs.
use Rattle.std.proofs.Common.{◌≡◌, take}
use Rattle.dataflow.specs.Flows.{held_from}
use Rattle.dataflow.proofs.dataflow.held_by.Given as goal

abbrev pub invariant-loop-i : goal.invariant-loop-i
invariant-loop-i l = l.held.items ≡ held_from 0 (take l.i l.stages)
