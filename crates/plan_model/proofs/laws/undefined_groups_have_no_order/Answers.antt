use Rattle.plan_model.specs.Keys.{value_ops}
use Rattle.plan_model.proofs.Aggregates.{undefined_same}
use Rattle.plan_model.proofs.laws.undefined_groups_have_no_order.Goals as goal

pub returns : goal.returns
returns c = undefined_same value_ops
