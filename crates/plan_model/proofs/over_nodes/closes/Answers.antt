use Rattle.std.proofs.Common.{◌∙◌, arith, slice_index_or}
use Rattle.std.proofs.lemmas.List.{length-set}
use Rattle.tw_rows.specs.Instant.{inf}
use Rattle.plan_model.specs.Meaning.{closes}
use Rattle.plan_model.proofs.Kept.{node_at, left_at, right_at, period_at, closing_found, found_more, room_at}
use Rattle.plan_model.proofs.over_nodes.closes.Goals as goal

pub next_closing-requires-clause-period : goal.next_closing-requires-clause-period
next_closing-requires-clause-period c = period_at c.args.plan.now c.loop-i.i _ (node_at _ _ _ _ c.nodes-nodes.ensures.kept c.nodes-nodes.ensures.nodes (omega arith) c.index-nodes-i.is)

pub next_closing-requires-clause-left : goal.next_closing-requires-clause-left
next_closing-requires-clause-left c = left_at c.args.plan.now c.loop-i.i _ (node_at _ _ _ _ c.nodes-nodes.ensures.kept c.nodes-nodes.ensures.nodes (omega arith) c.index-nodes-i.is)

pub next_closing-requires-clause-right : goal.next_closing-requires-clause-right
next_closing-requires-clause-right c = right_at c.args.plan.now c.loop-i.i _ (node_at _ _ _ _ c.nodes-nodes.ensures.kept c.nodes-nodes.ensures.nodes (omega arith) c.index-nodes-i.is)

pub loop-i-preserved : goal.loop-i-preserved
loop-i-preserved c = (
  length-set _ _ _ ∙ c.loop-i.invariant.0,
  found_more c.loop-i.done inf (λ j. closes c.args.plan.now.nodes j c.args.p) c.loop-i.i c.next_closing.result (room_at c.args.plan.now c.loop-i.i _ _ (node_at _ _ _ _ c.nodes-nodes.ensures.kept c.nodes-nodes.ensures.nodes (omega arith) c.index-nodes-i.is) c.loop-i.invariant.0) c.loop-i.invariant.1 (c.next_closing.ensures ∙ closing_found c.args.plan.now c.args.p c.loop-i.i _ (node_at _ _ _ _ c.nodes-nodes.ensures.kept c.nodes-nodes.ensures.nodes (omega arith) c.index-nodes-i.is) (λ j. slice_index_or c.loop-i.done j inf) c.loop-i.invariant.1),
)

pub next_closing-requires-2-clause-period : goal.next_closing-requires-2-clause-period
next_closing-requires-2-clause-period c = period_at c.args.plan.now c.args.node _ (node_at _ _ _ _ c.nodes-nodes.ensures.kept c.nodes-nodes.ensures.nodes c.requires c.index-nodes-node.is)

pub next_closing-requires-2-clause-left : goal.next_closing-requires-2-clause-left
next_closing-requires-2-clause-left c = left_at c.args.plan.now c.args.node _ (node_at _ _ _ _ c.nodes-nodes.ensures.kept c.nodes-nodes.ensures.nodes c.requires c.index-nodes-node.is)

pub next_closing-requires-2-clause-right : goal.next_closing-requires-2-clause-right
next_closing-requires-2-clause-right c = right_at c.args.plan.now c.args.node _ (node_at _ _ _ _ c.nodes-nodes.ensures.kept c.nodes-nodes.ensures.nodes c.requires c.index-nodes-node.is)

pub returns : goal.returns
returns c = c.next_closing-2.ensures ∙ closing_found c.args.plan.now c.args.p c.args.node _ (node_at _ _ _ _ c.nodes-nodes.ensures.kept c.nodes-nodes.ensures.nodes c.requires c.index-nodes-node.is) (λ j. slice_index_or c.loop-i.done j inf) (λ j low. c.loop-i.invariant.1 j (omega arith))
