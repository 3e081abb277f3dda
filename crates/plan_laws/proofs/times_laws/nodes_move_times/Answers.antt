use Rattle.plan_laws.proofs.PlanTimes.{node_up_to}
use Rattle.plan_laws.proofs.times_laws.nodes_move_times.Goals as goal

pub returns : goal.returns
returns g c = node_up_to
