use Rattle.std.proofs.Common.{◌∙◌, length, ap, arith, slice_index_or}
use Rattle.std.proofs.lemmas.List.{length-set}
use Rattle.tw_rows.specs.Instant.{inf}
use Rattle.plan_model.specs.Meaning.{closes, node_closes}
use Rattle.plan_model.proofs.Kept.{IsNodeAt, node_at, left_at, right_at, period_at, closing_found, found_more, room_at}
use Rattle.dataflow.proofs.closings.closings_at.Goals as goal

pub left_before-left-requires : goal.left_before-left-requires
left_before-left-requires c = left_at c.args.plan.now c.loop-i.i _ (node_at _ _ _ _ c.nodes-nodes.ensures.kept c.nodes-nodes.ensures.nodes (let same = ap length c.nodes-nodes.ensures.nodes in let test = c.loop-i-test.true in omega (arith, same, test)) c.index-nodes-i.is)

pub right_before-right-requires : goal.right_before-right-requires
right_before-right-requires c = right_at c.args.plan.now c.loop-i.i _ (node_at _ _ _ _ c.nodes-nodes.ensures.kept c.nodes-nodes.ensures.nodes (let same = ap length c.nodes-nodes.ensures.nodes in let test = c.loop-i-test.true in omega (arith, same, test)) c.index-nodes-i.is)

pub closing_over-requires : goal.closing_over-requires
closing_over-requires c = period_at c.args.plan.now c.loop-i.i _ (node_at _ _ _ _ c.nodes-nodes.ensures.kept c.nodes-nodes.ensures.nodes (let same = ap length c.nodes-nodes.ensures.nodes in let test = c.loop-i-test.true in omega (arith, same, test)) c.index-nodes-i.is)

pub loop-i-preserved : goal.loop-i-preserved
loop-i-preserved c =
    let plan = c.args.plan.now in
    let before = c.loop-i.invariant in
    let i = c.loop-i.i in
    let n = c.index-nodes-i.result in
    let same = ap length c.nodes-nodes.ensures.nodes in
    let test = c.loop-i-test.true in
    let at : IsNodeAt plan i n = node_at _ _ _ _ c.nodes-nodes.ensures.kept c.nodes-nodes.ensures.nodes (omega (arith, same, test)) c.index-nodes-i.is in
    record {
      room = length-set _ _ _ ∙ before.room;
      found = found_more c.loop-i.closings inf (λ j. closes plan.nodes j c.args.p) i c.closing_over.result (room_at plan i n _ at before.room) before.found
          (c.closing_over.ensures ∙ ap (λ x. node_closes n x c.right_before-right.result) c.left_before-left.ensures ∙ ap (node_closes n _) c.right_before-right.ensures
          ∙ closing_found plan c.args.p i n at (λ j. slice_index_or c.loop-i.closings j inf) before.found);
    }

pub returns : goal.returns
returns c = λ j low. c.loop-i.invariant.found j (let same = ap length c.nodes-nodes.ensures.nodes in let test = c.loop-i-test.false in omega (arith, same, test, low))
