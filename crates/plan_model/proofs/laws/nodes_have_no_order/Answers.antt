use Rattle.plan_model.proofs.SameNodes.{node_same}
use Rattle.plan_model.proofs.laws.nodes_have_no_order.Goals as goal

pub returns : goal.returns
returns g c = node_same
