use Rattle.std.proofs.Common.{◌≡◌}
use Rattle.tw_rows.specs.Instant.{instants}
use Rattle.query_plan.proofs.sides.first_columns.Given as goal

abbrev pub invariant-loop-column : goal.invariant-loop-column
invariant-loop-column l = l.columns.items ≡ instants 0 l.column
