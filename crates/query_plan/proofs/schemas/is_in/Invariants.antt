use Rattle.std.specs.Prelude.{nat_eq}
use Rattle.std.specs.List.{list_any}
use Rattle.query_plan.proofs.ColumnFits.{IsLeft}
use Rattle.query_plan.proofs.schemas.is_in.Given as goal

abbrev pub invariant-loop-other : goal.invariant-loop-other
invariant-loop-other l = IsLeft (list_any (nat_eq l.column)) l.key l.other-index
