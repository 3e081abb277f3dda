use Rattle.plan_model.proofs.Exprs.{value_at-is}
use Rattle.plan_model.proofs.laws.value_is.Goals as goal

pub returns-clause-node : goal.returns-clause-node
returns-clause-node c = value_at-is
