use Rattle.std.proofs.Common.{◌≡◌, ◌∙◌, length, get_or, ap, sym, subst, arith}
use Rattle.std.specs.Prelude.{◌+◌, slice_index_or}
use Rattle.plan_model.specs.Shape.{HasLower}
use Rattle.plan_model.specs.Meaning.{left_child, right_child}
use Rattle.plan_model.proofs.Kept.{IsNodeAt, node_at}
use Rattle.dataflow.specs.Readers.{with_last}
use Rattle.dataflow.proofs.LastRead.{IsLast, ReadsNode, ReadsStream, with_last-count, nodes_next, streams_next, read_by_all, streamed_by_all, lower_than, source_there}
use Rattle.dataflow.proofs.readers.Readers.of.Goals as goal

pub read_up_to-requires : goal.read_up_to-requires
read_up_to-requires c =
    let plan = c.args.plan.now in
    let i = c.loop-i.i in
    let n = c.index-nodes-i.result in
    let same = ap length c.nodes-nodes.ensures.nodes in
    let test = c.loop-i-test.true in
    let long = c.loop-i.invariant.nodes in
    let at : IsNodeAt plan i n = node_at plan _ i n c.nodes-nodes.ensures.kept c.nodes-nodes.ensures.nodes (omega (arith, same, test)) c.index-nodes-i.is in
    let low = at.low in
    subst (HasLower (length c.loop-i.last.nodes.items)) (sym c.left_child.ensures) (lower_than i (length c.loop-i.last.nodes.items) (left_child n) (omega (arith, low, long)) (at.kept.nodes_are.each i n at.here).left_lower)

pub read_up_to-requires-in-loop-i : goal.read_up_to-requires-in-loop-i
read_up_to-requires-in-loop-i c =
    let plan = c.args.plan.now in
    let i = c.loop-i.i in
    let n = c.index-nodes-i.result in
    let same = ap length c.nodes-nodes.ensures.nodes in
    let test = c.loop-i-test.true in
    let long = c.loop-i.invariant.nodes in
    let count = ap length c.read_up_to.ensures ∙ with_last-count c.loop-i.last.nodes.items c.left_child.result (i + 1) in
    let at : IsNodeAt plan i n = node_at plan _ i n c.nodes-nodes.ensures.kept c.nodes-nodes.ensures.nodes (omega (arith, same, test)) c.index-nodes-i.is in
    let low = at.low in
    subst (HasLower (length c.read_up_to.new.last.items)) (sym c.right_child.ensures) (lower_than i (length c.read_up_to.new.last.items) (right_child n) (omega (arith, low, long, count)) (at.kept.nodes_are.each i n at.here).right_lower)

pub read_up_to-requires-in-loop-i-2 : goal.read_up_to-requires-in-loop-i-2
read_up_to-requires-in-loop-i-2 c =
    let plan = c.args.plan.now in
    let i = c.loop-i.i in
    let n = c.index-nodes-i.result in
    let same = ap length c.nodes-nodes.ensures.nodes in
    let test = c.loop-i-test.true in
    let at : IsNodeAt plan i n = node_at plan _ i n c.nodes-nodes.ensures.kept c.nodes-nodes.ensures.nodes (omega (arith, same, test)) c.index-nodes-i.is in
    source_there plan i n at.kept at.here c.stream_read.result (length c.loop-i.last.streams.items) c.loop-i.invariant.streams c.stream_read.ensures

pub loop-i-preserved : goal.loop-i-preserved
loop-i-preserved c =
    let before = c.loop-i.invariant in
    let plan = c.args.plan.now in
    let i = c.loop-i.i in
    let n = c.index-nodes-i.result in
    let same = ap length c.nodes-nodes.ensures.nodes in
    let test = c.loop-i-test.true in
    let at : IsNodeAt plan i n = node_at plan _ i n c.nodes-nodes.ensures.kept c.nodes-nodes.ensures.nodes (omega (arith, same, test)) c.index-nodes-i.is in
    let old = c.loop-i.last.nodes.items in
    let nodes : c.read_up_to-in-loop-i.new.last.items ≡ with_last (with_last old (left_child n) (i + 1)) (right_child n) (i + 1) =
    c.read_up_to-in-loop-i.ensures ∙ ap (λ r. with_last c.read_up_to.new.last.items r (i + 1)) c.right_child.ensures
    ∙ ap (λ l. with_last l (right_child n) (i + 1)) (c.read_up_to.ensures ∙ ap (λ r. with_last old r (i + 1)) c.left_child.ensures) in
    let count : length c.read_up_to-in-loop-i.new.last.items ≡ length old = ap length nodes ∙ with_last-count (with_last old (left_child n) (i + 1)) (right_child n) (i + 1) ∙ with_last-count old (left_child n) (i + 1) in
    let streams = c.read_up_to-in-loop-i-2.ensures in
    let many : length c.read_up_to-in-loop-i-2.new.last.items ≡ length c.loop-i.last.streams.items = ap length streams ∙ with_last-count c.loop-i.last.streams.items c.stream_read.result (i + 1) in
    record {
      nodes = count ∙ before.nodes;
      streams = many ∙ before.streams;
      of_nodes = λ k low. subst (λ l. IsLast (ReadsNode plan k) (i + 1) (get_or l k 0)) (sym nodes) (nodes_next plan i n at.here old before.of_nodes k (omega (arith, low, count)));
      of_streams = λ s low. subst (λ l. IsLast (ReadsStream plan s) (i + 1) (get_or l s 0)) (sym streams) (streams_next plan i n at.here c.loop-i.last.streams.items c.stream_read.result c.stream_read.ensures before.of_streams s (omega (arith, low, many)));
    }

pub returns : goal.returns
returns c =
    let before = c.loop-i.invariant in
    let plan = c.args.plan.now in
    let i = c.loop-i.i in
    let same = ap length c.nodes-nodes.ensures.nodes in
    let test = c.loop-i-test.false in
    let long = before.nodes in
    let many = before.streams in
    record {
      nodes = before.nodes;
      streams = before.streams;
      of_nodes = λ from k low. read_by_all plan k i (slice_index_or c.loop-i.last.nodes.items k 0) (omega (arith, same, test)) (before.of_nodes k (omega (arith, low, long))) from;
      of_streams = λ from s low. streamed_by_all plan s i (slice_index_or c.loop-i.last.streams.items s 0) (omega (arith, same, test)) (before.of_streams s (omega (arith, low, many))) from;
    }
