use Rattle.std.proofs.Common.{◌≡◌, ◌++◌, ◌∙◌, length, ap, arith}
use Rattle.std.proofs.lemmas.List.{length-map}
use Rattle.batch.specs.Rows.{edges_of, occupied_rows, kept}
use Rattle.batch.proofs.Tables.{length-kept}
use Rattle.edge_stream.specs.Sides.{is_on_side}
use Rattle.edge_stream.specs.declared.cut.Side.TheVariants.{From}
use Rattle.edge_stream.proofs.Parts.{length-filter-le}
use Rattle.edge_stream.proofs.Rows.{edges-kept, edges-occupied}
use Rattle.edge_stream.proofs.cut.later_part.Goals as goal

pub copy_kept-requires-clause-room : goal.copy_kept-requires-clause-room
copy_kept-requires-clause-room c =
    let rows = c.args.batch.now.rows in
    let bits = c.in_ok-mask.mask.items in
    let none = ap (λ b. length b.rows) c.in_ok-part.ensures.ok in
    let room = ap (λ b. b.capacity) c.in_ok-part.ensures.ok in
    let long : length bits ≡ length rows = ap length c.in_ok-mask.ensures ∙ length-map rows _ in
    let fewer = length-filter-le (λ r. r.occupied) (kept rows bits) in
    omega (arith, none, room, fewer, length-kept rows bits long, c.requires.capacity, c.requires.within)

pub returns-clause-edges : goal.returns-clause-edges
returns-clause-edges c =
    let rows = c.args.batch.now.rows in
    let bits = c.in_ok-mask.mask.items in
    ap (λ b. edges_of b.rows) c.copy_kept.ensures ∙ ap (λ b. edges_of (b.rows ++ occupied_rows (kept rows bits))) c.in_ok-part.ensures.ok
    ∙ edges-occupied (kept rows bits) ∙ ap (λ m. edges_of (kept rows m)) c.in_ok-mask.ensures ∙ edges-kept (is_on_side From c.args.t) rows
