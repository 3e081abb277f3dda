use Rattle.tw_rows.specs.Cells.{read_cells}
use Rattle.row_reader.proofs.Pieces.{start_text}
use Rattle.row_reader.proofs.output_line.push_start_fields.Goals as goal

pub returns-clause-ok : goal.returns-clause-ok
returns-clause-ok c = start_text c.args.kinds.now c.args.at (read_cells c.args.texts.now c.args.cells.now) _ _ _ _ _ c.in_ok-extend_from_slice.ensures.items c.in_ok-push_time.ensures.ok c.in_ok-extend_from_slice-2.ensures.items c.in_ok-push_rest.ensures.ok
