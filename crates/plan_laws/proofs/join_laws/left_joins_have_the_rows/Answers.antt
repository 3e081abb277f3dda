use Rattle.plan_laws.proofs.LeftJoining.{left_join_rows, left_join_filled, left_join_of_plan}
use Rattle.plan_laws.proofs.join_laws.left_joins_have_the_rows.Goals as goal

pub returns-clause-items : goal.returns-clause-items
returns-clause-items c = left_join_rows

pub returns-clause-filled : goal.returns-clause-filled
returns-clause-filled c = left_join_filled

pub returns-clause-plan : goal.returns-clause-plan
returns-clause-plan c = left_join_of_plan
