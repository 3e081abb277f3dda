use Rattle.plan_laws.proofs.Through.{left_stands, right_stands, node_stands, all_more}
use Rattle.plan_laws.proofs.through_laws.nodes_stand_read_after_their_children.Goals as goal

pub returns-clause-left : goal.returns-clause-left
returns-clause-left c = left_stands

pub returns-clause-right : goal.returns-clause-right
returns-clause-right c = right_stands

pub returns-clause-node : goal.returns-clause-node
returns-clause-node c = node_stands

pub returns-clause-next : goal.returns-clause-next
returns-clause-next c = all_more
