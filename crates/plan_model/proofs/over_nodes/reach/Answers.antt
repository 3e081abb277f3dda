use Rattle.std.proofs.Common.{◌≤◌, sym, ◌∙◌, subst, arith, slice_index_or}
use Rattle.std.proofs.lemmas.List.{length-set}
use Rattle.plan_model.specs.Reach.{reach}
use Rattle.plan_model.specs.IsPlan.{most_reach}
use Rattle.plan_model.proofs.Kept.{node_at, left_at, right_at, reach_found, found_near, reach_near, found_more, room_at}
use Rattle.plan_model.proofs.over_nodes.reach.Goals as goal

pub next_reach-requires-clause-left : goal.next_reach-requires-clause-left
next_reach-requires-clause-left c = left_at c.args.plan.now c.loop-i.i _ (node_at _ _ _ _ c.nodes-nodes.ensures.kept c.nodes-nodes.ensures.nodes (omega arith) c.index-nodes-i.is)

pub next_reach-requires-clause-right : goal.next_reach-requires-clause-right
next_reach-requires-clause-right c = right_at c.args.plan.now c.loop-i.i _ (node_at _ _ _ _ c.nodes-nodes.ensures.kept c.nodes-nodes.ensures.nodes (omega arith) c.index-nodes-i.is)

pub next_reach-requires-clause-near : goal.next_reach-requires-clause-near
next_reach-requires-clause-near c = found_near c.args.plan.now c.loop-i.i _ (node_at _ _ _ _ c.nodes-nodes.ensures.kept c.nodes-nodes.ensures.nodes (omega arith) c.index-nodes-i.is) (λ j. slice_index_or c.loop-i.done j 0) c.loop-i.invariant.1

pub loop-i-preserved : goal.loop-i-preserved
loop-i-preserved c = (
  length-set _ _ _ ∙ c.loop-i.invariant.0,
  found_more c.loop-i.done 0 (reach c.args.plan.now.nodes) c.loop-i.i c.next_reach.result (room_at c.args.plan.now c.loop-i.i _ _ (node_at _ _ _ _ c.nodes-nodes.ensures.kept c.nodes-nodes.ensures.nodes (omega arith) c.index-nodes-i.is) c.loop-i.invariant.0) c.loop-i.invariant.1 (c.next_reach.ensures ∙ reach_found c.args.plan.now c.loop-i.i _ (node_at _ _ _ _ c.nodes-nodes.ensures.kept c.nodes-nodes.ensures.nodes (omega arith) c.index-nodes-i.is) (λ j. slice_index_or c.loop-i.done j 0) c.loop-i.invariant.1),
)

pub next_reach-requires-2-clause-left : goal.next_reach-requires-2-clause-left
next_reach-requires-2-clause-left c = left_at c.args.plan.now c.args.node _ (node_at _ _ _ _ c.nodes-nodes.ensures.kept c.nodes-nodes.ensures.nodes c.requires c.index-nodes-node.is)

pub next_reach-requires-2-clause-right : goal.next_reach-requires-2-clause-right
next_reach-requires-2-clause-right c = right_at c.args.plan.now c.args.node _ (node_at _ _ _ _ c.nodes-nodes.ensures.kept c.nodes-nodes.ensures.nodes c.requires c.index-nodes-node.is)

pub next_reach-requires-2-clause-near : goal.next_reach-requires-2-clause-near
next_reach-requires-2-clause-near c = found_near c.args.plan.now c.args.node _ (node_at _ _ _ _ c.nodes-nodes.ensures.kept c.nodes-nodes.ensures.nodes c.requires c.index-nodes-node.is) (λ j. slice_index_or c.loop-i.done j 0) (λ j low. c.loop-i.invariant.1 j (omega arith))

pub returns-clause-reach : goal.returns-clause-reach
returns-clause-reach c = c.next_reach-2.ensures ∙ reach_found c.args.plan.now c.args.node _ (node_at _ _ _ _ c.nodes-nodes.ensures.kept c.nodes-nodes.ensures.nodes c.requires c.index-nodes-node.is) (λ j. slice_index_or c.loop-i.done j 0) (λ j low. c.loop-i.invariant.1 j (omega arith))

pub returns-clause-near : goal.returns-clause-near
returns-clause-near c =
    subst (λ r. r ≤ most_reach) (sym (c.next_reach-2.ensures ∙ reach_found c.args.plan.now c.args.node _ (node_at _ _ _ _ c.nodes-nodes.ensures.kept c.nodes-nodes.ensures.nodes c.requires c.index-nodes-node.is) (λ j. slice_index_or c.loop-i.done j 0) (λ j low. c.loop-i.invariant.1 j (omega arith))))
    (reach_near c.args.plan.now c.args.node _ (node_at _ _ _ _ c.nodes-nodes.ensures.kept c.nodes-nodes.ensures.nodes c.requires c.index-nodes-node.is))
