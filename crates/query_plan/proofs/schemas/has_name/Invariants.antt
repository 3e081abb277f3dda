use Rattle.std.specs.List.{list_any}
use Rattle.query_plan.specs.Schemas.{same_name}
use Rattle.query_plan.proofs.ColumnFits.{IsLeft}
use Rattle.query_plan.proofs.schemas.has_name.Given as goal

abbrev pub invariant-loop-other : goal.invariant-loop-other
invariant-loop-other l = IsLeft (list_any (same_name l.column)) l.others l.other-index
