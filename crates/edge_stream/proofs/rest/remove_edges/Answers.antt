use Rattle.std.proofs.Common.{◌≡◌, ◌∙◌, length, sym}
use Rattle.batch.specs.Rows.{occupied_rows}
use Rattle.edge_stream.proofs.Gone.{all_occupied}
use Rattle.edge_stream.proofs.rest.remove_edges.Goals as goal

pub remove_first-requires-clause-occupied : goal.remove_first-requires-clause-occupied
remove_first-requires-clause-occupied c =
    let rows = c.args.batch.now.rows in
    let all : length (occupied_rows rows) ≡ length rows = sym c.occupied.ensures ∙ c.if-occupied-rows.true ∙ c.rows.ensures.rows in
    all_occupied rows all
