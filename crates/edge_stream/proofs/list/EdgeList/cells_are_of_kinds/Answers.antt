use Rattle.std.proofs.Common.{◌≡◌, ◌<◌, map, length, ap, subst, ◌∙◌, arith}
use Rattle.std.specs.Prelude.{All}
use Rattle.std.proofs.lemmas.List.{take_all}
use Rattle.tw_rows.specs.declared.edge.Edge.{Edge}
use Rattle.tw_rows.specs.Cells.{datum_kind}
use Rattle.edge_stream.specs.Listing.{cells_of, edges_in}
use Rattle.edge_stream.proofs.Placed.{All-next}
use Rattle.edge_stream.proofs.list.EdgeList.cells_are_of_kinds.Goals as goal

pub loop-place-preserved : goal.loop-place-preserved
loop-place-preserved c =
    let P : Edge → Type 0 = λ e. map datum_kind e.cells ≡ cells_of c.args.self.now in
    let batches = c.self.inside.batches.items in
    let low : c.loop-place.place < length batches = omega (arith, c.loop-place-test.true, c.len-place-end.ensures) in
    let b = c.index.result.now in
    let kinds : b.kinds ≡ cells_of c.args.self.now = ap (λ t. t.kinds) c.index.ensures ∙ (c.self.invariant.alike c.loop-place.place b low).same_kinds ∙ ap cells_of c.self.view_is in
    All-next P batches c.loop-place.place b low c.index.ensures c.loop-place.invariant (λ i r within set. c.cells_are_of_kinds.ensures i r within ∙ kinds)

pub returns : goal.returns
returns c =
    let P : Edge → Type 0 = λ e. map datum_kind e.cells ≡ cells_of c.args.self.now in
    let batches = c.self.inside.batches.items in
    let end = take_all c.loop-place.place batches (omega (arith, c.loop-place-test.false, c.len-place-end.ensures)) in
    subst (All P) (ap edges_in end ∙ ap (λ v. v.edges) c.self.view_is) c.loop-place.invariant
