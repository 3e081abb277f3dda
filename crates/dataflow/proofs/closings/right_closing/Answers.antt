use Rattle.std.proofs.Common.{◌∙◌, ap, arith, slice_index_or}
use Rattle.tw_rows.specs.Instant.{inf}
use Rattle.plan_model.specs.Meaning.{closes, right_child}
use Rattle.plan_model.proofs.Kept.{node_at, right_at}
use Rattle.plan_model.proofs.Plans.{at_child_below}
use Rattle.where_select.proofs.Nodes.{one_node}
use Rattle.dataflow.specs.Stages.{right_closing}
use Rattle.dataflow.proofs.closings.right_closing.Goals as goal

pub right_before-requires : goal.right_before-requires
right_before-requires c = right_at c.args.plan.now c.args.i _ (node_at _ _ _ _ c.nodes-nodes.ensures.kept c.nodes-nodes.ensures.nodes c.requires c.index-nodes-i.is)

pub returns : goal.returns
returns c = λ p n closings there.
    let plan = c.args.plan.now in
    let low = c.requires in
    let node = c.index-nodes-i.result in
    let at = node_at plan _ c.args.i node c.nodes-nodes.ensures.kept c.nodes-nodes.ensures.nodes low c.index-nodes-i.is in
    c.right_before.ensures
    ∙ at_child_below inf (λ j. slice_index_or c.args.closings.now j inf) (λ j. closes plan.nodes j p) c.args.i (λ j below. closings j (omega (arith, below, low))) (right_child node)
    (at.kept.nodes_are.each c.args.i node at.here).right_lower
    ∙ ap (right_closing plan.nodes p) (one_node plan c.args.i node at n there)
