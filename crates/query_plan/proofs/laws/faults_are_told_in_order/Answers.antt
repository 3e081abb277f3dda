use Rattle.query_plan.proofs.FaultOrder.{step_told, nodes_told}
use Rattle.query_plan.proofs.laws.faults_are_told_in_order.Goals as goal

pub returns-clause-steps : goal.returns-clause-steps
returns-clause-steps c = step_told

pub returns-clause-nodes : goal.returns-clause-nodes
returns-clause-nodes c = nodes_told
