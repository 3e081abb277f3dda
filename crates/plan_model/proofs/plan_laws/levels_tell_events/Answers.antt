use Rattle.plan_model.proofs.Levels.{levels_agree}
use Rattle.plan_model.proofs.plan_laws.levels_tell_events.Goals as goal

pub returns : goal.returns
returns c = levels_agree
