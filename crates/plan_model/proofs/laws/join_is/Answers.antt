use Rattle.std.specs.Prelude.{◌≡◌, true, []}
use Rattle.std.specs.Ordering.{eq_by_cmp}
use Rattle.std.proofs.Common.{ap, subst}
use Rattle.tw_rows.specs.Instant.{inf}
use Rattle.tw_rows.specs.Rows.{row_cmp}
use Rattle.plan_model.specs.declared.node.Node.TheVariants.{Join}
use Rattle.plan_model.specs.Keys.{key_values}
use Rattle.plan_model.specs.Meaning.{node_events, node_closes, nothing, by_events, node_meaning}
use Rattle.plan_model.proofs.InOrder.{same_row, row_itself}
use Rattle.plan_model.proofs.Plans.{over_nodes-is}
use Rattle.plan_model.proofs.laws.join_is.Goals as goal

pub returns-clause-events : goal.returns-clause-events
returns-clause-events c = λ source nodes i left right left_key right_key ordered there. over_nodes-is [] source node_events nodes ordered i (Join left right left_key right_key) there

pub returns-clause-rows : goal.returns-clause-rows
returns-clause-rows c = λ source nodes i left right t left_key right_key ordered there. ap (λ m. m.rows t) (over_nodes-is nothing (λ s. by_events (source s)) node_meaning nodes ordered i (Join left right left_key right_key) there)

pub returns-clause-closing : goal.returns-clause-closing
returns-clause-closing c = λ nodes i left right p left_key right_key ordered there. over_nodes-is inf (λ s. p) node_closes nodes ordered i (Join left right left_key right_key) there

pub returns-clause-keys : goal.returns-clause-keys
returns-clause-keys c = λ left_key right_key a b. (λ same. same_row (key_values left_key a) (key_values right_key b) same, λ same. subst (λ k. eq_by_cmp row_cmp (key_values left_key a) k ≡ true) same (row_itself (key_values left_key a)))
