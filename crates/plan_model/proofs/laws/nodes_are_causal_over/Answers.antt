use Rattle.plan_model.proofs.Causal.{node_in_known}
use Rattle.plan_model.proofs.laws.nodes_are_causal_over.Goals as goal

pub returns : goal.returns
returns g c = node_in_known
