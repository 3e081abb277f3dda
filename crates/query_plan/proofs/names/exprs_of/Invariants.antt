use Rattle.query_plan.proofs.Trees.{item_expr}
use Rattle.query_plan.proofs.SoFar.{IsSoFar}
use Rattle.query_plan.proofs.names.exprs_of.Given as goal

abbrev pub invariant-loop-item : goal.invariant-loop-item
invariant-loop-item l = IsSoFar (item_expr l.schema) l.items l.item-index l.exprs.items
