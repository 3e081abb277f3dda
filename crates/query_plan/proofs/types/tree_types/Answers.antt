use Rattle.query_plan.specs.Types.{type_of}
use Rattle.query_plan.proofs.SoFar.{so_far_none, so_far_more, so_far_stop, so_far_all}
use Rattle.query_plan.proofs.types.tree_types.Goals as goal

pub loop-tree-init : goal.loop-tree-init
loop-tree-init c = so_far_none _ _ _ (cc)

pub returns-in-None : goal.returns-in-None
returns-in-None c = so_far_stop (type_of c.args.schema.now) c.args.trees.now c.loop-tree.tree-index c.tree-item.result c.in_ok-kind.field-0 _ c.loop-tree.invariant c.loop-tree-test.true c.tree-item.is c.in_ok-kind.ensures c.in-None.is

pub loop-tree-preserved : goal.loop-tree-preserved
loop-tree-preserved c = so_far_more (type_of c.args.schema.now) c.args.trees.now c.loop-tree.tree-index c.tree-item.result c.in-Some.kind c.in_ok-kind.field-0 _ _ c.loop-tree.invariant c.loop-tree-test.true c.tree-item.is c.in_ok-kind.ensures c.in-Some.is c.in_ok-push-in-Some.ensures.items

pub returns : goal.returns
returns c = so_far_all (type_of c.args.schema.now) c.args.trees.now c.loop-tree.tree-index _ c.loop-tree.invariant c.loop-tree-test.false
