use Rattle.query_plan.proofs.Trees.{item_type}
use Rattle.query_plan.proofs.SoFar.{IsSoFar}
use Rattle.query_plan.proofs.types.types_of.Given as goal

abbrev pub invariant-loop-item : goal.invariant-loop-item
invariant-loop-item l = IsSoFar (item_type l.schema) l.items l.item-index l.types.items
