use Rattle.std.proofs.Common.{◌∙◌, Some, sym, ap, subst}
use Rattle.occupancy.specs.Bits.{IsNextSet, IsNoneSet}
use Rattle.edge_stream.specs.Reading.{first_sync}
use Rattle.edge_stream.proofs.Rows.{sync_is}
use Rattle.edge_stream.proofs.Ahead.{row_within}
use Rattle.edge_stream.proofs.Fronts.{upper_rows, edges_next, edges_none}
use Rattle.edge_stream.proofs.counted.first_in.Goals as goal

pub returns-in_err-row : goal.returns-in_err-row
returns-in_err-row c = λ rises.
    let rows = c.args.batch.now.rows in
    let k = c.row_from.result in
    let none = edges_none rows k (subst (λ o. IsNoneSet o.items k) c.occupancy.ensures c.in_err-row.ensures.none) in
    c.from_residual.ensures ∙ ap first_sync (sym none ∙ upper_rows c.args.t k rows (c.row_from.ensures.below rises) (c.row_from.ensures.from rises))

pub returns : goal.returns
returns c = λ rises.
    let rows = c.args.batch.now.rows in
    let k = c.row_from.result in
    let row = c.in_ok-row.row in
    let next = subst (λ o. IsNextSet o.items k row) c.occupancy.ensures c.in_ok-row.ensures.found in
    ap Some (sym (sync_is rows row c.sync_at.result (row_within rows row next.set) c.sync_at.ensures))
    ∙ ap first_sync (sym (edges_next rows k row next) ∙ upper_rows c.args.t k rows (c.row_from.ensures.below rises) (c.row_from.ensures.from rises))
