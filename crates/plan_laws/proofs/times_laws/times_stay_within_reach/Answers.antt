use Rattle.plan_laws.proofs.PlanTimes.{events_up_to, times_are_instants}
use Rattle.plan_laws.proofs.times_laws.times_stay_within_reach.Goals as goal

pub returns-clause-reach : goal.returns-clause-reach
returns-clause-reach c = events_up_to

pub returns-clause-instants : goal.returns-clause-instants
returns-clause-instants c = times_are_instants
