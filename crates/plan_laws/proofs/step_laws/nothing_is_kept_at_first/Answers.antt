use Rattle.plan_laws.proofs.Steps.{keeps_first}
use Rattle.plan_laws.proofs.step_laws.nothing_is_kept_at_first.Goals as goal

pub returns : goal.returns
returns c = keeps_first
