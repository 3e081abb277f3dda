use Rattle.plan_laws.proofs.Maps.{grouped_to, sessions_to}
use Rattle.plan_laws.proofs.map_laws.groups_follow_replaced_rows.Goals as goal

pub returns-clause-groups : goal.returns-clause-groups
returns-clause-groups g c = grouped_to

pub returns-clause-sessions : goal.returns-clause-sessions
returns-clause-sessions g c = sessions_to
