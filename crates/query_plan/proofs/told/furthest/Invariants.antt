-- the greatest node is that of the choices so far
use Rattle.std.proofs.Common.{◌≡◌}
use Rattle.query_plan.specs.Told.{furthest_below}
use Rattle.query_plan.proofs.told.furthest.Given as goal

abbrev pub invariant-loop-number : goal.invariant-loop-number
invariant-loop-number l = l.most ≡ furthest_below l.plan l.number
