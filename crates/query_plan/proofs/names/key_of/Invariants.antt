use Rattle.query_plan.specs.Names.{column_of}
use Rattle.query_plan.proofs.SoFar.{IsSoFar}
use Rattle.query_plan.proofs.names.key_of.Given as goal

abbrev pub invariant-loop-name : goal.invariant-loop-name
invariant-loop-name l = IsSoFar (column_of l.schema) l.names l.name-index l.columns.items
