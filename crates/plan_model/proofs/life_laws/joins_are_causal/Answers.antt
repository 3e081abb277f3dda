use Rattle.plan_model.proofs.Joining.{Known-joined}
use Rattle.plan_model.proofs.life_laws.joins_are_causal.Goals as goal

pub returns : goal.returns
returns g c = Known-joined
