use Rattle.std.proofs.Common.{[]}
use Rattle.query_plan.specs.Schemas.{column_at}
use Rattle.query_plan.proofs.Columns.{IsMade}
use Rattle.query_plan.proofs.schemas.group_columns.Given as goal

abbrev pub invariant-loop-column : goal.invariant-loop-column
invariant-loop-column l = IsMade (column_at l.schema) [] l.key l.column-index l.all.items
