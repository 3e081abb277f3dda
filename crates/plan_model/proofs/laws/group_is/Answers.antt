use Rattle.std.specs.Prelude.{[]}
use Rattle.std.proofs.Common.{ap}
use Rattle.tw_rows.specs.Instant.{inf}
use Rattle.plan_model.specs.declared.node.Node.TheVariants.{Group}
use Rattle.plan_model.specs.Keys.{value_ops, key_values}
use Rattle.plan_model.specs.Meaning.{node_events, node_closes, nothing, by_events, node_meaning}
use Rattle.plan_model.proofs.Aggregates.{row_of_group_is}
use Rattle.plan_model.proofs.InOrder.{rows_equal_tells}
use Rattle.plan_model.proofs.Plans.{over_nodes-is}
use Rattle.plan_model.proofs.laws.group_is.Goals as goal

pub returns-clause-events : goal.returns-clause-events
returns-clause-events c = λ source nodes i child key aggs ordered there. over_nodes-is [] source node_events nodes ordered i (Group child key aggs) there

pub returns-clause-rows : goal.returns-clause-rows
returns-clause-rows c = λ source nodes i child t key aggs ordered there. ap (λ m. m.rows t) (over_nodes-is nothing (λ s. by_events (source s)) node_meaning nodes ordered i (Group child key aggs) there)

pub returns-clause-closing : goal.returns-clause-closing
returns-clause-closing c = λ nodes i child p key aggs ordered there. over_nodes-is inf (λ s. p) node_closes nodes ordered i (Group child key aggs) there

pub returns-clause-keys : goal.returns-clause-keys
returns-clause-keys c = λ key values row. rows_equal_tells values (key_values key row)

pub returns-clause-order : goal.returns-clause-order
returns-clause-order c = row_of_group_is value_ops
