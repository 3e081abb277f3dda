use Rattle.std.specs.Prelude.{[]}
use Rattle.std.proofs.Common.{◌∙◌}
use Rattle.tw_rows.specs.Instant.{inf}
use Rattle.plan_model.specs.declared.node.Node.TheVariants.{Session}
use Rattle.plan_model.specs.Keys.{key_values, rows_equal}
use Rattle.plan_model.specs.Meaning.{node_events, events, node_closes, nothing, by_events, node_meaning}
use Rattle.plan_model.proofs.NewLives.{in_sessions-is}
use Rattle.plan_model.proofs.InOrder.{rows_equal_tells}
use Rattle.plan_model.proofs.Plans.{over_nodes-is}
use Rattle.plan_model.proofs.PlanLaws.{rows_of_events}
use Rattle.plan_model.proofs.laws.session_is.Goals as goal

pub returns-clause-events : goal.returns-clause-events
returns-clause-events c = λ source nodes i child timeout key ordered there timed.
    over_nodes-is [] source node_events nodes ordered i (Session child timeout key) there
    ∙ in_sessions-is (key_values key) rows_equal timeout (events source nodes child) timed

pub returns-clause-no_timeout : goal.returns-clause-no_timeout
returns-clause-no_timeout c = λ source nodes i child key ordered there. over_nodes-is [] source node_events nodes ordered i (Session child 0 key) there

pub returns-clause-rows : goal.returns-clause-rows
returns-clause-rows c = λ source nodes i child timeout t key ordered levelled there timed.
    rows_of_events source nodes ordered levelled i t _ _ (over_nodes-is [] source node_events nodes ordered i (Session child timeout key) there ∙ in_sessions-is (key_values key) rows_equal timeout (events source nodes child) timed)
    (over_nodes-is nothing (λ s. by_events (source s)) node_meaning nodes ordered i (Session child timeout key) there)

pub returns-clause-closing : goal.returns-clause-closing
returns-clause-closing c = λ nodes i child timeout p key ordered there. over_nodes-is inf (λ s. p) node_closes nodes ordered i (Session child timeout key) there

pub returns-clause-keys : goal.returns-clause-keys
returns-clause-keys c = rows_equal_tells
