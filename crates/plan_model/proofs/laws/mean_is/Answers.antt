use Rattle.std.specs.Prelude.{[]}
use Rattle.std.proofs.Common.{ap}
use Rattle.tw_rows.specs.Instant.{inf}
use Rattle.plan_model.specs.declared.node.Node.TheVariants.{Mean}
use Rattle.plan_model.specs.Meaning.{node_events, node_closes, nothing, by_events, node_meaning}
use Rattle.plan_model.proofs.Plans.{over_nodes-is}
use Rattle.plan_model.proofs.laws.mean_is.Goals as goal

pub returns-clause-events : goal.returns-clause-events
returns-clause-events c = λ source nodes i child at ordered there. over_nodes-is [] source node_events nodes ordered i (Mean child at) there

pub returns-clause-rows : goal.returns-clause-rows
returns-clause-rows c = λ source nodes i child t at ordered there. ap (λ m. m.rows t) (over_nodes-is nothing (λ s. by_events (source s)) node_meaning nodes ordered i (Mean child at) there)

pub returns-clause-closing : goal.returns-clause-closing
returns-clause-closing c = λ nodes i child p at ordered there. over_nodes-is inf (λ s. p) node_closes nodes ordered i (Mean child at) there
