use Rattle.plan_model.proofs.PlanLaws.{events_agree}
use Rattle.plan_model.proofs.laws.snapshots_agree.Goals as goal

pub returns-clause-rows : goal.returns-clause-rows
returns-clause-rows c = λ source nodes ordered levelled n t low. (events_agree source nodes ordered levelled n).same_rows t low

pub returns-clause-events : goal.returns-clause-events
returns-clause-events c = λ source nodes ordered levelled n has. (events_agree source nodes ordered levelled n).same_events has
