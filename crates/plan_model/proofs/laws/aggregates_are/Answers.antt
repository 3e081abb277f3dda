use Rattle.plan_model.specs.Keys.{value_ops}
use Rattle.plan_model.proofs.Aggregates.{least_is, greatest_is, agg_same}
use Rattle.plan_model.proofs.laws.aggregates_are.Goals as goal

pub returns-clause-least : goal.returns-clause-least
returns-clause-least c = least_is

pub returns-clause-greatest : goal.returns-clause-greatest
returns-clause-greatest c = greatest_is

pub returns-clause-order : goal.returns-clause-order
returns-clause-order c = agg_same value_ops
