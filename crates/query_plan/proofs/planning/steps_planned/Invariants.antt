use Rattle.std.proofs.Common.{◌≡◌, drop}
use Rattle.query_plan.specs.Planned.{steps_planned}
use Rattle.query_plan.proofs.planning.steps_planned.Given as goal

abbrev pub invariant-loop-i : goal.invariant-loop-i
invariant-loop-i l = steps_planned l.fn.item l.fn.reached l.steps ≡ steps_planned l.item l.reached (drop l.i l.steps)
