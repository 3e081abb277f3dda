use Rattle.std.proofs.Common.{◌∙◌, [], sym}
use Rattle.query_plan.proofs.Columns.{item_name, named_none, named_more, named_short, named_all}
use Rattle.query_plan.proofs.schemas.select_schema.Goals as goal

pub loop-i-init : goal.loop-i-init
loop-i-init c = named_none item_name [] _ _ _ (cc)

pub returns-in-None : goal.returns-in-None
returns-in-None c = c.from_vec.ensures ∙ named_short item_name [] c.args.items.now c.args.kinds.now c.loop-i.i _ c.loop-i.invariant (sym c.nth_kind.ensures ∙ c.in-None.is)

pub loop-i-preserved : goal.loop-i-preserved
loop-i-preserved c = named_more item_name [] c.args.items.now c.args.kinds.now c.loop-i.i c.index-items-i.result c.in-Some.kind c.in_ok-column_with-in-Some.field-0 _ _ c.loop-i.invariant c.loop-i-test.true c.index-items-i.is (sym c.nth_kind.ensures ∙ c.in-Some.is) c.in_ok-column_with-in-Some.ensures c.in_ok-push-in-Some.ensures.items

pub returns : goal.returns
returns c = c.from_vec-2.ensures ∙ named_all item_name [] c.args.items.now c.args.kinds.now c.loop-i.i _ c.loop-i.invariant c.loop-i-test.false
