use Rattle.std.specs.Prelude.{nat_eq}
use Rattle.query_plan.specs.Schemas.{has_twice}
use Rattle.query_plan.proofs.ColumnFits.{IsLeft}
use Rattle.query_plan.proofs.schemas.key_twice.Given as goal

abbrev pub invariant-loop-i : goal.invariant-loop-i
invariant-loop-i l = IsLeft (has_twice nat_eq) l.key l.i
