-- So far.
use Rattle.std.proofs.Common.{take}
use Rattle.std.specs.Prelude.{All}
use Rattle.checkpoint.specs.Values.{IsDatum}
use Rattle.checkpoint.proofs.values.see_cells.Given as goal

abbrev pub invariant-loop-datum : goal.invariant-loop-datum
invariant-loop-datum l = All IsDatum (take l.datum-index l.cells)
