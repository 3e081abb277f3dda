use Rattle.tw_rows.specs.SameCells.{same_cells-Decides}
use Rattle.tw_rows.proofs.cells.same_cells_are_equal.Goals as goal

pub returns : goal.returns
returns c = same_cells-Decides
