use Rattle.std.proofs.Common.{◌∙◌, map, refl, sym}
use Rattle.query_plan.specs.Schemas.{agg_kind}
use Rattle.query_plan.proofs.Columns.{agg_name, named_none, named_more, named_short, named_all}
use Rattle.query_plan.proofs.schemas.push_aggs.Goals as goal

pub loop-i-init : goal.loop-i-init
loop-i-init c = named_none agg_name c.args.all.now.items _ _ _ refl

pub returns-in-None : goal.returns-in-None
returns-in-None c = named_short agg_name c.args.all.now.items c.args.aggs.now (map (agg_kind c.args.schema.now) c.args.computed.now) c.loop-i.i _ c.loop-i.invariant (sym c.nth_agg_kind.ensures ∙ c.in-None.is)

pub loop-i-preserved : goal.loop-i-preserved
loop-i-preserved c = named_more agg_name c.args.all.now.items c.args.aggs.now (map (agg_kind c.args.schema.now) c.args.computed.now) c.loop-i.i c.index-aggs-i.result c.in-Some.kind c.in_ok-column_with-in-Some.field-0 _ _ c.loop-i.invariant c.loop-i-test.true c.index-aggs-i.is (sym c.nth_agg_kind.ensures ∙ c.in-Some.is) c.in_ok-column_with-in-Some.ensures c.in_ok-push-in-Some.ensures.items

pub returns : goal.returns
returns c = named_all agg_name c.args.all.now.items c.args.aggs.now (map (agg_kind c.args.schema.now) c.args.computed.now) c.loop-i.i _ c.loop-i.invariant c.loop-i-test.false
