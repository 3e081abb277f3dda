-- The columns before this one are cleared, and the others are as they were.
use Rattle.std.proofs.Common.{◌≡◌}
use Rattle.batch.proofs.Pushing.{cleared_first}
use Rattle.batch.proofs.columns.clear_columns.Given as goal

abbrev pub invariant-loop-c : goal.invariant-loop-c
invariant-loop-c l = l.columns ≡ cleared_first l.c l.fn.columns
