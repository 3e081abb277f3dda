use Rattle.std.specs.Prelude.{[]}
use Rattle.tw_rows.specs.Instant.{inf}
use Rattle.plan_model.specs.declared.node.Node.TheVariants.{Extend}
use Rattle.plan_model.specs.Meaning.{node_events, node_closes, nothing, by_events, node_meaning}
use Rattle.plan_model.proofs.Plans.{over_nodes-is}
use Rattle.plan_model.proofs.PlanLaws.{rows_of_events}
use Rattle.plan_model.proofs.laws.extend_is.Goals as goal

pub returns-clause-events : goal.returns-clause-events
returns-clause-events c = λ source nodes i child by ordered there. over_nodes-is [] source node_events nodes ordered i (Extend child by) there

pub returns-clause-rows : goal.returns-clause-rows
returns-clause-rows c = λ source nodes i child by t ordered levelled there.
    rows_of_events source nodes ordered levelled i t _ _ (over_nodes-is [] source node_events nodes ordered i (Extend child by) there)
    (over_nodes-is nothing (λ s. by_events (source s)) node_meaning nodes ordered i (Extend child by) there)

pub returns-clause-closing : goal.returns-clause-closing
returns-clause-closing c = λ nodes i child by p ordered there. over_nodes-is inf (λ s. p) node_closes nodes ordered i (Extend child by) there
