use Rattle.plan_model.proofs.NewLives.{alive-moved}
use Rattle.plan_model.proofs.life_laws.moved_events_have_the_rows.Goals as goal

pub returns : goal.returns
returns g c = alive-moved
