use Rattle.std.specs.Prelude.{[]}
use Rattle.std.proofs.Common.{ap, sym}
use Rattle.tw_rows.specs.Instant.{inf}
use Rattle.plan_model.specs.declared.node.Node.TheVariants.{Coalesce}
use Rattle.plan_model.specs.Meaning.{node_events, node_closes, nothing, by_events, node_meaning, snapshots}
use Rattle.plan_model.proofs.Plans.{over_nodes-is}
use Rattle.std.proofs.Common.{subst}
use Rattle.tw_rows.specs.Bag.{SameBag}
use Rattle.key_nodes.proofs.CoalescedRows.{coalesced_rows}
use Rattle.plan_model.specs.Keys.{rows_equal}
use Rattle.plan_model.proofs.InOrder.{rows_equal_tells}
use Rattle.plan_model.proofs.laws.coalesce_is.Goals as goal

pub returns-clause-events : goal.returns-clause-events
returns-clause-events c = λ source nodes i child ordered there. over_nodes-is [] source node_events nodes ordered i (Coalesce child) there

pub returns-clause-rows : goal.returns-clause-rows
returns-clause-rows c = λ source nodes i child t ordered there low.
    subst (λ rows. SameBag rows (snapshots source nodes child t)) (sym (ap (λ m. m.rows t) (over_nodes-is nothing (λ s. by_events (source s)) node_meaning nodes ordered i (Coalesce child) there)))
    (coalesced_rows rows_equal rows_equal_tells (snapshots source nodes child) t low)

pub returns-clause-closing : goal.returns-clause-closing
returns-clause-closing c = λ nodes i child p ordered there. over_nodes-is inf (λ s. p) node_closes nodes ordered i (Coalesce child) there
