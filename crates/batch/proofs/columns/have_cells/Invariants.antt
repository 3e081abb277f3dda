-- The cells of the columns before this one are the same.
use Rattle.std.proofs.Common.{◌≡◌, take}
use Rattle.batch.specs.Payloads.{cells_at}
use Rattle.batch.proofs.columns.have_cells.Given as goal

abbrev pub invariant-loop-c : goal.invariant-loop-c
invariant-loop-c l = take l.c (cells_at l.columns l.i) ≡ take l.c l.cells
