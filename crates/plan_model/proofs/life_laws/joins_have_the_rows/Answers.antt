use Rattle.plan_model.proofs.Joining.{alive-joined}
use Rattle.plan_model.proofs.life_laws.joins_have_the_rows.Goals as goal

pub returns : goal.returns
returns g c = alive-joined
