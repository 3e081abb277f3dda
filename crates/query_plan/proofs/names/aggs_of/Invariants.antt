use Rattle.query_plan.specs.Names.{agg_of}
use Rattle.query_plan.proofs.SoFar.{IsSoFar}
use Rattle.query_plan.proofs.names.aggs_of.Given as goal

abbrev pub invariant-loop-agg : goal.invariant-loop-agg
invariant-loop-agg l = IsSoFar (agg_of l.schema) l.aggs l.agg-index l.list.items
