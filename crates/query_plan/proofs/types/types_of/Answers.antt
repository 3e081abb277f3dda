use Rattle.query_plan.proofs.Trees.{item_type}
use Rattle.query_plan.proofs.SoFar.{so_far_none, so_far_more, so_far_stop, so_far_all}
use Rattle.query_plan.proofs.types.types_of.Goals as goal

pub loop-item-init : goal.loop-item-init
loop-item-init c = so_far_none _ _ _ (cc)

pub returns-in-None : goal.returns-in-None
returns-in-None c = so_far_stop (item_type c.args.schema.now) c.args.items.now c.loop-item.item-index c.item-item.result c.in_ok-kind.field-0 _ c.loop-item.invariant c.loop-item-test.true c.item-item.is c.in_ok-kind.ensures c.in-None.is

pub loop-item-preserved : goal.loop-item-preserved
loop-item-preserved c = so_far_more (item_type c.args.schema.now) c.args.items.now c.loop-item.item-index c.item-item.result c.in-Some.kind c.in_ok-kind.field-0 _ _ c.loop-item.invariant c.loop-item-test.true c.item-item.is c.in_ok-kind.ensures c.in-Some.is c.in_ok-push-in-Some.ensures.items

pub returns : goal.returns
returns c = so_far_all (item_type c.args.schema.now) c.args.items.now c.loop-item.item-index _ c.loop-item.invariant c.loop-item-test.false
