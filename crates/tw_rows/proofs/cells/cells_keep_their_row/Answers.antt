use Rattle.tw_rows.proofs.CellReads.{ArePlaced-append, read_cells-append, datum_kind-read}
use Rattle.tw_rows.proofs.cells.cells_keep_their_row.Goals as goal

pub returns : goal.returns
returns c = record { placed = ArePlaced-append; read = read_cells-append; stored = datum_kind-read }
