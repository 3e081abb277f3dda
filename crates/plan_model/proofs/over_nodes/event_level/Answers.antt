use Rattle.std.proofs.Common.{◌∙◌, arith, slice_index_or, true}
use Rattle.std.proofs.lemmas.List.{length-set}
use Rattle.plan_model.specs.Reach.{event_level}
use Rattle.plan_model.proofs.Kept.{node_at, left_at, right_at, level_found, found_more, room_at}
use Rattle.plan_model.proofs.over_nodes.event_level.Goals as goal

pub next_level-requires-clause-left : goal.next_level-requires-clause-left
next_level-requires-clause-left c = left_at c.args.plan.now c.loop-i.i _ (node_at _ _ _ _ c.nodes-nodes.ensures.kept c.nodes-nodes.ensures.nodes (omega arith) c.index-nodes-i.is)

pub next_level-requires-clause-right : goal.next_level-requires-clause-right
next_level-requires-clause-right c = right_at c.args.plan.now c.loop-i.i _ (node_at _ _ _ _ c.nodes-nodes.ensures.kept c.nodes-nodes.ensures.nodes (omega arith) c.index-nodes-i.is)

pub loop-i-preserved : goal.loop-i-preserved
loop-i-preserved c = (
  length-set _ _ _ ∙ c.loop-i.invariant.0,
  found_more c.loop-i.done true (event_level c.args.plan.now.nodes) c.loop-i.i c.next_level.result (room_at c.args.plan.now c.loop-i.i _ _ (node_at _ _ _ _ c.nodes-nodes.ensures.kept c.nodes-nodes.ensures.nodes (omega arith) c.index-nodes-i.is) c.loop-i.invariant.0) c.loop-i.invariant.1 (c.next_level.ensures ∙ level_found c.args.plan.now c.loop-i.i _ (node_at _ _ _ _ c.nodes-nodes.ensures.kept c.nodes-nodes.ensures.nodes (omega arith) c.index-nodes-i.is) (λ j. slice_index_or c.loop-i.done j true) c.loop-i.invariant.1),
)

pub next_level-requires-2-clause-left : goal.next_level-requires-2-clause-left
next_level-requires-2-clause-left c = left_at c.args.plan.now c.args.node _ (node_at _ _ _ _ c.nodes-nodes.ensures.kept c.nodes-nodes.ensures.nodes c.requires c.index-nodes-node.is)

pub next_level-requires-2-clause-right : goal.next_level-requires-2-clause-right
next_level-requires-2-clause-right c = right_at c.args.plan.now c.args.node _ (node_at _ _ _ _ c.nodes-nodes.ensures.kept c.nodes-nodes.ensures.nodes c.requires c.index-nodes-node.is)

pub returns : goal.returns
returns c = c.next_level-2.ensures ∙ level_found c.args.plan.now c.args.node _ (node_at _ _ _ _ c.nodes-nodes.ensures.kept c.nodes-nodes.ensures.nodes c.requires c.index-nodes-node.is) (λ j. slice_index_or c.loop-i.done j true) (λ j low. c.loop-i.invariant.1 j (omega arith))
