use Rattle.std.proofs.Common.{◌<◌, ◌≤◌, ◌∙◌, length, get_or, ap, subst, Some}
use Rattle.query_plan.specs.Names.{node_of}
use Rattle.query_plan.proofs.SoFar.{so_far_none, so_far_more, so_far_stop, so_far_all}
use Rattle.query_plan.proofs.Trees.{expr_kept}
use Rattle.query_plan.proofs.names.expr_of.Goals as goal

pub loop-node-init : goal.loop-node-init
loop-node-init c = so_far_none _ _ _ (cc)

pub returns-in-None : goal.returns-in-None
returns-in-None c = let same = c.items-node-items.ensures.nodes in so_far_stop (node_of c.args.schema.now) c.args.tree.now c.loop-node.node-index c.node-item.result c.in_ok-node.field-0 _ c.loop-node.invariant (subst (λ l. c.loop-node.node-index < length l) same c.loop-node-test.true) (c.node-item.is ∙ ap (λ l. get_or l c.loop-node.node-index c.node-item.result) same) (c.in_ok-node.ensures) c.in-None.is

pub loop-node-preserved : goal.loop-node-preserved
loop-node-preserved c = let same = c.items-node-items.ensures.nodes in so_far_more (node_of c.args.schema.now) c.args.tree.now c.loop-node.node-index c.node-item.result c.in-Some.node c.in_ok-node.field-0 _ _ c.loop-node.invariant (subst (λ l. c.loop-node.node-index < length l) same c.loop-node-test.true) (c.node-item.is ∙ ap (λ l. get_or l c.loop-node.node-index c.node-item.result) same) (c.in_ok-node.ensures) c.in-Some.is c.in_ok-push-in-Some.ensures.items

pub returns : goal.returns
returns c = let same = c.items-node-items.ensures.nodes in ap Some c.from_vec.ensures ∙ so_far_all (node_of c.args.schema.now) c.args.tree.now c.loop-node.node-index _ c.loop-node.invariant (subst (λ l. length l ≤ c.loop-node.node-index) same c.loop-node-test.false)

pub from_vec-requires : goal.from_vec-requires
from_vec-requires c = let same = c.items-node-items.ensures.nodes in expr_kept c.args.schema.now c.args.tree.now c.loop-node.nodes.items c.items-node-items.ensures.kept (so_far_all (node_of c.args.schema.now) c.args.tree.now c.loop-node.node-index _ c.loop-node.invariant (subst (λ l. length l ≤ c.loop-node.node-index) same c.loop-node-test.false))
