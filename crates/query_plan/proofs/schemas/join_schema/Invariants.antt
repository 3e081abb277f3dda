use Rattle.query_plan.proofs.Columns.{IsJoined}
use Rattle.query_plan.proofs.schemas.join_schema.Given as goal

abbrev pub invariant-loop-i : goal.invariant-loop-i
invariant-loop-i l = IsJoined l.left l.right l.right_key l.i l.all.items
