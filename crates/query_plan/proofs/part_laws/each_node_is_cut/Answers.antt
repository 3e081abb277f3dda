use Rattle.query_plan.proofs.Together.{nodes_cut}
use Rattle.query_plan.proofs.part_laws.each_node_is_cut.Goals as goal

pub returns : goal.returns
returns c = nodes_cut
