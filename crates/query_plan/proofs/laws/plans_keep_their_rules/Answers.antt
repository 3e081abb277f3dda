use Rattle.query_plan.proofs.Sound.{planned-IsPlan}
use Rattle.query_plan.proofs.laws.plans_keep_their_rules.Goals as goal

pub returns : goal.returns
returns c = planned-IsPlan
