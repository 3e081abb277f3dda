use Rattle.plan_model.proofs.Steady.{quiet}
use Rattle.plan_model.proofs.changes_laws.quiet_instants_change_nothing.Goals as goal

pub returns : goal.returns
returns c = quiet
