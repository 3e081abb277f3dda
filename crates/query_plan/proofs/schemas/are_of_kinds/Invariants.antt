use Rattle.query_plan.proofs.ColumnFits.{KindsLeft}
use Rattle.query_plan.proofs.schemas.are_of_kinds.Given as goal

abbrev pub invariant-loop-i : goal.invariant-loop-i
invariant-loop-i l = KindsLeft l.columns l.wanted l.i
