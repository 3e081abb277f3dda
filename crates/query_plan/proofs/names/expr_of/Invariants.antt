use Rattle.query_plan.specs.Names.{node_of}
use Rattle.query_plan.proofs.SoFar.{IsSoFar}
use Rattle.query_plan.proofs.names.expr_of.Given as goal

abbrev pub invariant-loop-node : goal.invariant-loop-node
invariant-loop-node l = IsSoFar (node_of l.schema) l.tree l.node-index l.nodes.items
