use Rattle.plan_model.proofs.NodeLaws.{node_known}
use Rattle.plan_model.proofs.laws.nodes_are_causal.Goals as goal

pub returns : goal.returns
returns c = node_known
