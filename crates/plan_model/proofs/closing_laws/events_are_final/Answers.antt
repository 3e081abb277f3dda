use Rattle.plan_model.proofs.PlanLaws.{all_known, left_known, right_known}
use Rattle.plan_model.proofs.closing_laws.events_are_final.Goals as goal

pub returns-clause-node : goal.returns-clause-node
returns-clause-node c = all_known

pub returns-clause-left : goal.returns-clause-left
returns-clause-left c = left_known

pub returns-clause-right : goal.returns-clause-right
returns-clause-right c = right_known
