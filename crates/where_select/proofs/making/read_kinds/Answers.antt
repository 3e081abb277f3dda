use Rattle.std.proofs.Common.{◌≡◌, ◌<◌, ◌∙◌, length, map, ap, sym, subst}
use Rattle.std.specs.Prelude.{Some, slice_get}
use Rattle.std.proofs.lemmas.Result.{IfOk-weaker}
use Rattle.tw_rows.specs.Kinds.{cell_kind_of}
use Rattle.plan_model.specs.declared.node.Node.{Node}
use Rattle.plan_model.specs.IsPlan.{kinds_of_stream, kinds_at}
use Rattle.plan_model.proofs.Kept.{node_at}
use Rattle.where_select.specs.Stages.{kinds_read}
use Rattle.where_select.proofs.Nodes.{stream_there, child_there, stream_read, child_read}
use Rattle.where_select.proofs.making.read_kinds.Goals as goal

pub stream_kinds-requires : goal.stream_kinds-requires
stream_kinds-requires c =
    let at = node_at c.args.plan.now _ c.args.node _ c.nodes-nodes.ensures.kept c.nodes-nodes.ensures.nodes c.requires c.index-nodes-node.is in
    subst (λ l. c.in-Source.stream < length l) (sym c.streams-streams.ensures.streams) (stream_there c.args.plan.now c.args.node c.index-nodes-node.result at c.in-Source.stream c.in-Source.is)

pub child_kinds-requires : goal.child_kinds-requires
child_kinds-requires c =
    let at = node_at c.args.plan.now _ c.args.node _ c.nodes-nodes.ensures.kept c.nodes-nodes.ensures.nodes c.requires c.index-nodes-node.is in
    subst (λ l. c.in-Some.child < length l) (sym c.schemas-schemas.ensures.schemas) (child_there c.args.plan.now c.args.node c.index-nodes-node.result at c.in-Some.child (sym c.left_child.ensures ∙ c.in-Some.is))

pub returns-in-Source : goal.returns-in-Source
returns-in-Source c =
    let plan = c.args.plan.now in
    let at = node_at c.args.plan.now _ c.args.node _ c.nodes-nodes.ensures.kept c.nodes-nodes.ensures.nodes c.requires c.index-nodes-node.is in
    IfOk-weaker c.stream_kinds.result (λ v. map cell_kind_of v.items ≡ kinds_of_stream c.streams-streams.result.now c.in-Source.stream)
    (λ v. (n : Node) → slice_get plan.nodes c.args.node ≡ Some n → map cell_kind_of v.items ≡ kinds_read plan n)
    (λ v h n e. h ∙ ap (λ l. kinds_of_stream l c.in-Source.stream) c.streams-streams.ensures.streams ∙ stream_read plan c.args.node c.index-nodes-node.result at c.in-Source.stream c.in-Source.is n e)
    c.stream_kinds.ensures

pub returns-in-Some : goal.returns-in-Some
returns-in-Some c =
    let plan = c.args.plan.now in
    let at = node_at c.args.plan.now _ c.args.node _ c.nodes-nodes.ensures.kept c.nodes-nodes.ensures.nodes c.requires c.index-nodes-node.is in
    IfOk-weaker c.child_kinds.result (λ v. map cell_kind_of v.items ≡ kinds_at c.schemas-schemas.result.now c.in-Some.child)
    (λ v. (n : Node) → slice_get plan.nodes c.args.node ≡ Some n → map cell_kind_of v.items ≡ kinds_read plan n)
    (λ v h n e. h ∙ ap (λ l. kinds_at l c.in-Some.child) c.schemas-schemas.ensures.schemas ∙ child_read plan c.args.node c.index-nodes-node.result at c.in-Some.child (sym c.left_child.ensures ∙ c.in-Some.is) n e)
    c.child_kinds.ensures
