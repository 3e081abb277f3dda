use Rattle.row_reader.proofs.Pieces.{placed_at}
use Rattle.row_reader.proofs.rows.row_of_cells.Goals as goal

pub value_of_datum-requires : goal.value_of_datum-requires
value_of_datum-requires c = placed_at c.args.texts.now _ c.loop-datum.datum-index _ c.requires c.loop-datum-test.true
