use Rattle.std.proofs.Common.{◌≡◌, ◌<◌, true, length, ap, sym, subst, ◌∙◌, arith, rules}
use Rattle.std.specs.Prelude.{All}
use Rattle.std.proofs.lemmas.List.{take_all}
use Rattle.tw_rows.specs.declared.edge.Edge.{Edge}
use Rattle.tw_rows.specs.Cells.{ArePlaced}
use Rattle.edge_stream.specs.Listing.{edges_in}
use Rattle.edge_stream.proofs.Placed.{All-batch, All-next}
use Rattle.edge_stream.proofs.list.EdgeList.are_placed.Goals as goal

pub returns-then-not-are_placed : goal.returns-then-not-are_placed
returns-then-not-are_placed c = (
  λ set. absurd (cc),
  λ all.
      let P : Edge → Type 0 = λ e. ArePlaced c.args.texts.now e.cells in
      let batches = c.self.inside.batches.items in
      let low : c.loop-place.place < length batches = omega (arith, c.loop-place-test.true, c.len-place-end.ensures) in
      let whole = subst (All P) (sym (ap (λ v. v.edges) c.self.view_is)) all in
      let here = All-batch P batches c.loop-place.place c.index.result.now low whole in
      sym c.if-not-are_placed.true ∙ c.are_placed.ensures.1 (subst (λ b. All (λ r. r.occupied ≡ true → ArePlaced c.args.texts.now r.cells) b.rows) (sym c.index.ensures) here),
)

pub loop-place-preserved : goal.loop-place-preserved
loop-place-preserved c =
    let P : Edge → Type 0 = λ e. ArePlaced c.args.texts.now e.cells in
    let batches = c.self.inside.batches.items in
    let low : c.loop-place.place < length batches = omega (arith, c.loop-place-test.true, c.len-place-end.ensures) in
    All-next P batches c.loop-place.place c.index.result.now low c.index.ensures c.loop-place.invariant (c.are_placed.ensures.0 c.if-not-are_placed.false)

pub returns : goal.returns
returns c = (
  λ set.
      let P : Edge → Type 0 = λ e. ArePlaced c.args.texts.now e.cells in
      let batches = c.self.inside.batches.items in
      let end = take_all c.loop-place.place batches (omega (arith, c.loop-place-test.false, c.len-place-end.ensures)) in
      subst (All P) (ap edges_in end ∙ ap (λ v. v.edges) c.self.view_is) c.loop-place.invariant,
  λ all. search rules,
)
