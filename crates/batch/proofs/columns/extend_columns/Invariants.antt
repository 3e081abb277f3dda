-- The columns before this one have their cells, and the others are as they were.
use Rattle.std.proofs.Common.{◌≡◌}
use Rattle.batch.proofs.Bulk.{extended_first}
use Rattle.batch.proofs.columns.extend_columns.Given as goal

abbrev pub invariant-loop-c : goal.invariant-loop-c
invariant-loop-c l = l.columns ≡ extended_first l.count l.c l.fn.columns l.from
