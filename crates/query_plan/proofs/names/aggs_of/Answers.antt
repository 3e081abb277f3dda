use Rattle.std.proofs.Common.{◌∙◌, ap, Some}
use Rattle.query_plan.specs.Names.{agg_of}
use Rattle.query_plan.proofs.SoFar.{so_far_none, so_far_more, so_far_stop, so_far_all}
use Rattle.query_plan.proofs.names.aggs_of.Goals as goal

pub loop-agg-init : goal.loop-agg-init
loop-agg-init c = so_far_none _ _ _ (cc)

pub returns-in-None : goal.returns-in-None
returns-in-None c = so_far_stop (agg_of c.args.schema.now) c.args.aggs.now c.loop-agg.agg-index c.agg-item.result c.agg_of.result _ c.loop-agg.invariant c.loop-agg-test.true c.agg-item.is (c.agg_of.ensures) c.in-None.is

pub loop-agg-preserved : goal.loop-agg-preserved
loop-agg-preserved c = so_far_more (agg_of c.args.schema.now) c.args.aggs.now c.loop-agg.agg-index c.agg-item.result c.in-Some.agg c.agg_of.result _ _ c.loop-agg.invariant c.loop-agg-test.true c.agg-item.is (c.agg_of.ensures) c.in-Some.is c.in_ok-push-in-Some.ensures.items

pub returns : goal.returns
returns c = ap Some c.from_vec.ensures ∙ so_far_all (agg_of c.args.schema.now) c.args.aggs.now c.loop-agg.agg-index _ c.loop-agg.invariant c.loop-agg-test.false
