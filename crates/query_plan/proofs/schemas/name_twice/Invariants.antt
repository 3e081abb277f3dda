use Rattle.query_plan.specs.Schemas.{has_twice, same_name}
use Rattle.query_plan.proofs.ColumnFits.{IsLeft}
use Rattle.query_plan.proofs.schemas.name_twice.Given as goal

abbrev pub invariant-loop-i : goal.invariant-loop-i
invariant-loop-i l = IsLeft (has_twice same_name) l.schema l.i
