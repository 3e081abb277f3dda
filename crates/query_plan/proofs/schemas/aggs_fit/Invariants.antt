use Rattle.std.specs.List.{list_all}
use Rattle.query_plan.specs.Schemas.{agg_fits}
use Rattle.query_plan.proofs.ColumnFits.{IsLeft}
use Rattle.query_plan.proofs.schemas.aggs_fit.Given as goal

abbrev pub invariant-loop-agg : goal.invariant-loop-agg
invariant-loop-agg l = IsLeft (list_all (agg_fits l.schema)) l.aggs l.agg-index
