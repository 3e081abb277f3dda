use Rattle.std.specs.Prelude.{◌-◌, cond, []}
use Rattle.std.proofs.Common.{◌∙◌, ap}
use Rattle.std.proofs.lemmas.Bool.{le-leb, lt-leb}
use Rattle.tw_rows.specs.Instant.{inf}
use Rattle.plan_model.specs.declared.node.Node.TheVariants.{Delay}
use Rattle.plan_model.specs.Meaning.{node_events, node_closes, nothing, by_events, node_meaning, snapshots}
use Rattle.plan_model.proofs.Plans.{over_nodes-is}
use Rattle.plan_model.proofs.laws.delay_is.Goals as goal

pub returns-clause-events : goal.returns-clause-events
returns-clause-events c = λ source nodes i child by ordered there. over_nodes-is [] source node_events nodes ordered i (Delay child by) there

pub returns-clause-rows : goal.returns-clause-rows
returns-clause-rows c = λ source nodes i child by t ordered there late.
    ap (λ m. m.rows t) (over_nodes-is nothing (λ s. by_events (source s)) node_meaning nodes ordered i (Delay child by) there)
    ∙ ap (λ b. cond b (snapshots source nodes child (t - by)) []) (le-leb by t late)

pub returns-clause-no_rows : goal.returns-clause-no_rows
returns-clause-no_rows c = λ source nodes i child by t ordered there early.
    ap (λ m. m.rows t) (over_nodes-is nothing (λ s. by_events (source s)) node_meaning nodes ordered i (Delay child by) there)
    ∙ ap (λ b. cond b (snapshots source nodes child (t - by)) []) (lt-leb by t early)

pub returns-clause-closing : goal.returns-clause-closing
returns-clause-closing c = λ nodes i child by p ordered there. over_nodes-is inf (λ s. p) node_closes nodes ordered i (Delay child by) there
