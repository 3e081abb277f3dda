-- The columns before this one have their cell, and the others are as they were.
use Rattle.std.proofs.Common.{◌≡◌}
use Rattle.batch.proofs.Pushing.{pushed_first}
use Rattle.batch.proofs.columns.push_cells.Given as goal

abbrev pub invariant-loop-c : goal.invariant-loop-c
invariant-loop-c l = l.columns ≡ pushed_first l.c l.fn.columns l.cells
