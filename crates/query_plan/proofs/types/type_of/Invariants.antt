use Rattle.query_plan.proofs.Clashes.{AreTypesSoFar}
use Rattle.query_plan.proofs.types.type_of.Given as goal

abbrev pub invariant-loop-node : goal.invariant-loop-node
invariant-loop-node l = AreTypesSoFar l.schema l.tree l.node-index l.types.items
