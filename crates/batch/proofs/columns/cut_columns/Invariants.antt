-- The columns before this one lost their first cells, and the others are as they were.
use Rattle.std.proofs.Common.{◌≡◌}
use Rattle.batch.proofs.Bulk.{cut_first}
use Rattle.batch.proofs.columns.cut_columns.Given as goal

abbrev pub invariant-loop-c : goal.invariant-loop-c
invariant-loop-c l = l.columns ≡ cut_first l.count l.c l.fn.columns
