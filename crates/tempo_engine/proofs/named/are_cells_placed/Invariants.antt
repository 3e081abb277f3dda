-- The cells before this one are placed.
use Rattle.std.proofs.Common.{take}
use Rattle.tw_rows.specs.Cells.{ArePlaced}
use Rattle.tempo_engine.proofs.named.are_cells_placed.Given as goal

abbrev pub invariant-loop-datum : goal.invariant-loop-datum
invariant-loop-datum l = ArePlaced l.texts (take l.datum-index l.cells)
