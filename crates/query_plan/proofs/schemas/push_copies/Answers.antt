use Rattle.std.proofs.Common.{refl}
use Rattle.query_plan.proofs.Columns.{as_it_is, made_none, made_more, copied_all}
use Rattle.query_plan.proofs.schemas.push_copies.Goals as goal

pub loop-column-init : goal.loop-column-init
loop-column-init c = made_none _ _ _ _ refl

pub loop-column-preserved : goal.loop-column-preserved
loop-column-preserved c = made_more as_it_is c.args.all.now.items c.args.columns.now c.loop-column.column-index c.column-item.result c.in_ok-clone.field-0 _ _ c.loop-column.invariant c.loop-column-test.true c.column-item.is c.in_ok-clone.ensures.cases c.in_ok-push.ensures.items

pub returns : goal.returns
returns c = copied_all c.args.all.now.items c.args.columns.now c.loop-column.column-index _ c.loop-column.invariant c.loop-column-test.false
