use Rattle.std.proofs.Common.{◌≡◌, drop}
use Rattle.query_plan.specs.Names.{column_from, column_of}
use Rattle.query_plan.proofs.names.column_of.Given as goal

abbrev pub invariant-loop-i : goal.invariant-loop-i
invariant-loop-i l = column_from l.i (drop l.i l.schema) l.name ≡ column_of l.schema l.name
