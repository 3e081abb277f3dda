use Rattle.std.proofs.Common.{◌≡◌, ◌∙◌, ap, sym, subst, get_or}
use Rattle.std.specs.Prelude.{All}
use Rattle.std.proofs.lemmas.Option.{get_or_from_slice_get}
use Rattle.batch.specs.Payloads.{cells_at, Reaches}
use Rattle.batch.proofs.Tables.{get_or-rows_of}
use Rattle.batch.proofs.Views.{columns_of, rows_are, sync_place, payload_place}
use Rattle.batch.proofs.batch.Batch.has_cells.Goals as goal

pub have_cells-requires : goal.have_cells-requires
have_cells-requires c = subst (All (Reaches c.args.i)) (sym c.as_slice.ensures) (payload_place c.self.inside c.args.self.now c.self.view_is c.self.invariant c.args.i c.requires)

pub returns : goal.returns
returns c = λ r found.
    let rows = rows_are c.self.inside c.args.self.now c.self.view_is c.self.invariant in
    let place = sync_place c.self.inside c.args.self.now c.self.view_is c.self.invariant c.args.i c.requires in
    let row = sym (get_or-rows_of (columns_of c.self.inside) c.args.i r place) ∙ ap (λ rs. get_or rs c.args.i r) rows ∙ get_or_from_slice_get c.args.self.now.rows c.args.i r r found in
    let cells : cells_at c.as_slice.result.now c.args.i ≡ r.cells = ap (λ ps. cells_at ps c.args.i) c.as_slice.ensures ∙ ap (λ q. q.cells) row in
    let e = c.have_cells.ensures in
    (λ yes. sym cells ∙ e.0 yes, λ same. e.1 (cells ∙ same))
