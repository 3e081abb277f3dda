use Rattle.std.proofs.Common.{◌≡◌}
use Rattle.query_plan.specs.Steps.{columns_alone}
use Rattle.query_plan.proofs.outer.columns_alone.Given as goal

abbrev pub invariant-loop-column : goal.invariant-loop-column
invariant-loop-column l = l.exprs.items ≡ columns_alone l.column
