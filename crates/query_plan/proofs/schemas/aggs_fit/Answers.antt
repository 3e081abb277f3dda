use Rattle.std.proofs.Common.{sym}
use Rattle.std.specs.List.{list_all}
use Rattle.query_plan.specs.Schemas.{agg_fits}
use Rattle.query_plan.proofs.ColumnFits.{all_here, all_past, left_all}
use Rattle.query_plan.proofs.schemas.aggs_fit.Goals as goal

pub returns-then-not-agg_fits : goal.returns-then-not-agg_fits
returns-then-not-agg_fits c = all_here (agg_fits c.args.schema.now) c.args.aggs.now c.loop-agg.agg-index c.agg-item.result c.loop-agg.invariant c.loop-agg-test.true c.agg-item.is (sym c.if-not-agg_fits.ensures)

pub loop-agg-preserved : goal.loop-agg-preserved
loop-agg-preserved c = all_past (agg_fits c.args.schema.now) c.args.aggs.now c.loop-agg.agg-index c.agg-item.result c.loop-agg.invariant c.loop-agg-test.true c.agg-item.is (sym c.if-not-agg_fits.ensures)

pub returns : goal.returns
returns c = left_all (list_all (agg_fits c.args.schema.now)) c.args.aggs.now c.loop-agg.agg-index c.loop-agg.invariant c.loop-agg-test.false
