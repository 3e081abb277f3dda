use Rattle.plan_model.proofs.PlanLaws.{snapshots_final}
use Rattle.plan_model.proofs.laws.snapshots_are_final.Goals as goal

pub returns : goal.returns
returns c = snapshots_final
