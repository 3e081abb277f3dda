use Rattle.plan_laws.proofs.Steps.{keeps_longer}
use Rattle.plan_laws.proofs.step_laws.what_is_kept_stays_in_longer_tables.Goals as goal

pub returns : goal.returns
returns c = keeps_longer
