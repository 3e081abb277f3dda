use Rattle.std.proofs.Common.{◌<◌, ◌≤◌, ◌∙◌, length, get_or, ap, subst}
use Rattle.query_plan.specs.Types.{node_type}
use Rattle.query_plan.proofs.Clashes.{types_none, types_more, types_stop, types_all}
use Rattle.query_plan.proofs.types.type_of.Goals as goal

pub loop-node-init : goal.loop-node-init
loop-node-init c = types_none _ _ _ (cc)

pub returns-in-None : goal.returns-in-None
returns-in-None c = let same = c.items-node-items.ensures.nodes in types_stop c.args.schema.now c.args.tree.now c.loop-node.node-index c.node-item.result c.node_type.result _ c.loop-node.invariant (subst (λ l. c.loop-node.node-index < length l) same c.loop-node-test.true) (c.node-item.is ∙ ap (λ l. get_or l c.loop-node.node-index c.node-item.result) same) (c.node_type.ensures ∙ ap (λ l. node_type c.args.schema.now l c.node-item.result) c.as_slice.ensures.value) c.in-None.is

pub loop-node-preserved : goal.loop-node-preserved
loop-node-preserved c = let same = c.items-node-items.ensures.nodes in types_more c.args.schema.now c.args.tree.now c.loop-node.node-index c.node-item.result c.in-Some.kind c.node_type.result _ _ c.loop-node.invariant (subst (λ l. c.loop-node.node-index < length l) same c.loop-node-test.true) (c.node-item.is ∙ ap (λ l. get_or l c.loop-node.node-index c.node-item.result) same) (c.node_type.ensures ∙ ap (λ l. node_type c.args.schema.now l c.node-item.result) c.as_slice.ensures.value) c.in-Some.is c.in_ok-push-in-Some.ensures.items

pub returns : goal.returns
returns c = let same = c.items-node-items.ensures.nodes in let e = types_all c.args.schema.now c.args.tree.now c.loop-node.node-index _ c.loop-node.invariant (subst (λ l. length l ≤ c.loop-node.node-index) same c.loop-node-test.false) in cc
