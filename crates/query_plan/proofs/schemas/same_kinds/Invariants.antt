use Rattle.tw_rows.specs.declared.schema.ColumnDef.{ColumnDef}
use Rattle.query_plan.specs.Types.{same_kind}
use Rattle.query_plan.proofs.ColumnFits.{AreLeft}
use Rattle.query_plan.proofs.schemas.same_kinds.Given as goal

abbrev pub invariant-loop-i : goal.invariant-loop-i
invariant-loop-i l = AreLeft same_kind (λ (d : ColumnDef). d.kind) (λ (d : ColumnDef). d.kind) l.left l.right l.i
