use Rattle.query_plan.specs.Names.{expr_of}
use Rattle.query_plan.proofs.SoFar.{IsSoFar}
use Rattle.query_plan.proofs.names.tree_exprs.Given as goal

abbrev pub invariant-loop-tree : goal.invariant-loop-tree
invariant-loop-tree l = IsSoFar (expr_of l.schema) l.trees l.tree-index l.exprs.items
