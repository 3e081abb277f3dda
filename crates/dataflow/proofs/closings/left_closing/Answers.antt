use Rattle.std.proofs.Common.{◌∙◌, ap, arith, slice_index_or}
use Rattle.tw_rows.specs.Instant.{inf}
use Rattle.plan_model.specs.Meaning.{closes}
use Rattle.plan_model.proofs.Kept.{node_at, left_at}
use Rattle.plan_model.proofs.Plans.{left_of_below}
use Rattle.where_select.proofs.Nodes.{one_node}
use Rattle.dataflow.specs.Stages.{left_closing}
use Rattle.dataflow.proofs.closings.left_closing.Goals as goal

pub left_before-requires : goal.left_before-requires
left_before-requires c = left_at c.args.plan.now c.args.i _ (node_at _ _ _ _ c.nodes-nodes.ensures.kept c.nodes-nodes.ensures.nodes c.requires.node c.index-nodes-i.is)

pub returns : goal.returns
returns c = λ n there.
    let plan = c.args.plan.now in
    let low = c.requires.node in
    let node = c.index-nodes-i.result in
    let at = node_at plan _ c.args.i node c.nodes-nodes.ensures.kept c.nodes-nodes.ensures.nodes low c.index-nodes-i.is in
    c.left_before.ensures
    ∙ left_of_below inf (λ s. c.args.p) (λ j. slice_index_or c.args.closings.now j inf) (λ j. closes plan.nodes j c.args.p) c.args.i (λ j below. c.requires.closings j (omega (arith, below, low))) node
    (at.kept.nodes_are.each c.args.i node at.here).left_lower
    ∙ ap (left_closing plan.nodes c.args.p) (one_node plan c.args.i node at n there)
