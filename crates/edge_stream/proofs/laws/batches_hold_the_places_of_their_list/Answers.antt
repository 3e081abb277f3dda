use Rattle.std.proofs.Common.{subst}
use Rattle.std.specs.Prelude.{All}
use Rattle.tw_rows.specs.Cells.{ArePlaced}
use Rattle.batch.specs.Rows.{edges_of}
use Rattle.edge_stream.proofs.Placed.{All-right, rows_from_edges, edges_from_rows}
use Rattle.edge_stream.proofs.laws.batches_hold_the_places_of_their_list.Goals as goal

pub returns-clause-batch : goal.returns-clause-batch
returns-clause-batch c texts edges rest rows is all = rows_from_edges (λ e. ArePlaced texts e.cells) rows rest (subst (All (λ e. ArePlaced texts e.cells)) is all)

pub returns-clause-rest : goal.returns-clause-rest
returns-clause-rest c texts edges rest rows is all = All-right (λ e. ArePlaced texts e.cells) (edges_of rows) rest (subst (All (λ e. ArePlaced texts e.cells)) is all)

pub returns-clause-back : goal.returns-clause-back
returns-clause-back c texts rows all = edges_from_rows (λ e. ArePlaced texts e.cells) rows all
