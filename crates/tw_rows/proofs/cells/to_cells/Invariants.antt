use Rattle.tw_rows.proofs.CellReads.{IsTaken}
use Rattle.tw_rows.proofs.cells.to_cells.Given as goal

abbrev pub invariant-loop-value : goal.invariant-loop-value
invariant-loop-value l = IsTaken l.fn.texts l.row l.value-index l.texts l.data.items
