use Rattle.std.proofs.Common.{ℕ}
use Rattle.query_plan.specs.Types.{same_kind}
use Rattle.query_plan.specs.Schemas.{column_at}
use Rattle.query_plan.proofs.ColumnFits.{AreLeft}
use Rattle.query_plan.proofs.schemas.keys_alike.Given as goal

abbrev pub invariant-loop-i : goal.invariant-loop-i
invariant-loop-i l = AreLeft same_kind (λ (k : ℕ). (column_at l.left k).kind) (λ (k : ℕ). (column_at l.right k).kind) l.left_key l.right_key l.i
