use Rattle.std.proofs.Common.{[]}
use Rattle.query_plan.proofs.Columns.{AreNamed, item_name}
use Rattle.query_plan.proofs.schemas.select_schema.Given as goal

abbrev pub invariant-loop-i : goal.invariant-loop-i
invariant-loop-i l = AreNamed item_name [] l.items l.kinds l.i l.all.items
