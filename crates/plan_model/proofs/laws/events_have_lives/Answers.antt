use Rattle.plan_model.proofs.PlanLaws.{AreEvents-events}
use Rattle.plan_model.proofs.laws.events_have_lives.Goals as goal

pub returns : goal.returns
returns c = AreEvents-events
