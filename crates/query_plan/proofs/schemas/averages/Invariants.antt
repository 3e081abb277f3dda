use Rattle.query_plan.proofs.Columns.{AreAveraged}
use Rattle.query_plan.proofs.schemas.averages.Given as goal

abbrev pub invariant-loop-i : goal.invariant-loop-i
invariant-loop-i l = AreAveraged l.first l.aggs l.i l.columns.items
