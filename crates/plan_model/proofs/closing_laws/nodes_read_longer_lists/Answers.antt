use Rattle.plan_model.proofs.Plans.{left_longer, right_longer}
use Rattle.plan_model.proofs.closing_laws.nodes_read_longer_lists.Goals as goal

pub returns-clause-left : goal.returns-clause-left
returns-clause-left g c = left_longer

pub returns-clause-right : goal.returns-clause-right
returns-clause-right g c = right_longer
