-- the cuts among the choices so far are found
use Rattle.std.proofs.Common.{◌≡◌}
use Rattle.query_plan.specs.Choices.{cuts_below}
use Rattle.query_plan.proofs.choosing.cuts.Given as goal

abbrev pub invariant-loop-number : goal.invariant-loop-number
invariant-loop-number l = l.found.items ≡ cuts_below l.plan l.number
