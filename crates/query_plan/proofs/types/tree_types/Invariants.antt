use Rattle.query_plan.specs.Types.{type_of}
use Rattle.query_plan.proofs.SoFar.{IsSoFar}
use Rattle.query_plan.proofs.types.tree_types.Given as goal

abbrev pub invariant-loop-tree : goal.invariant-loop-tree
invariant-loop-tree l = IsSoFar (type_of l.schema) l.trees l.tree-index l.types.items
