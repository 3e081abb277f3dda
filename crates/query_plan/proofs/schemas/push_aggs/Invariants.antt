use Rattle.std.proofs.Common.{map}
use Rattle.query_plan.specs.Schemas.{agg_kind}
use Rattle.query_plan.proofs.Columns.{AreNamed, agg_name}
use Rattle.query_plan.proofs.schemas.push_aggs.Given as goal

abbrev pub invariant-loop-i : goal.invariant-loop-i
invariant-loop-i l = AreNamed agg_name l.fn.all.items l.aggs (map (agg_kind l.schema) l.computed) l.i l.all.items
