use Rattle.std.proofs.Common.{◌≡◌, drop}
use Rattle.query_plan.specs.Growing.{reaches_with}
use Rattle.query_plan.proofs.checks.reaches_with.Given as goal

abbrev pub invariant-loop-i : goal.invariant-loop-i
invariant-loop-i l = reaches_with l.item l.fn.reaches.items l.planned ≡ reaches_with l.item l.reaches.items (drop l.i l.planned)
