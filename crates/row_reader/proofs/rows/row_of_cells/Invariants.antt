use Rattle.std.proofs.Common.{◌≡◌, map, take}
use Rattle.tw_rows.specs.Cells.{read_datum}
use Rattle.row_reader.proofs.rows.row_of_cells.Given as goal

abbrev pub invariant-loop-datum : goal.invariant-loop-datum
invariant-loop-datum l = l.values.items ≡ map (read_datum l.texts) (take l.datum-index l.cells)
