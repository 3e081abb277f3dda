use Rattle.query_plan.proofs.Columns.{IsMade, as_it_is}
use Rattle.query_plan.proofs.schemas.push_copies.Given as goal

abbrev pub invariant-loop-column : goal.invariant-loop-column
invariant-loop-column l = IsMade as_it_is l.fn.all.items l.columns l.column-index l.all.items
