use Rattle.std.proofs.Common.{◌≡◌, drop}
use Rattle.query_plan.specs.Planned.{lets_planned}
use Rattle.query_plan.proofs.planning.lets_planned.Given as goal

abbrev pub invariant-loop-i : goal.invariant-loop-i
invariant-loop-i l = lets_planned l.fn.item l.fn.draft l.lets l.body ≡ lets_planned l.item l.draft (drop l.i l.lets) l.body
