use Rattle.std.specs.Prelude.{◌++◌, ◌∷◌, [], All}
use Rattle.std.proofs.Common.{◌∙◌, ap, refl, sym, subst, take}
use Rattle.std.proofs.lemmas.List.{take_more, take_all}
use Rattle.std.proofs.lemmas.List.Elements.{All-push}
use Rattle.edge_stream.specs.declared.saved.SavedEntry.{SavedEntry}
use Rattle.tw_rows.specs.Cells.{ArePlaced}
use Rattle.tempo_engine.proofs.named.are_entries_placed.Goals as goal

pub loop-entry-preserved : goal.loop-entry-preserved
loop-entry-preserved c =
    let es = c.args.entries.now in
    let i = c.loop-entry.entry-index in
    let P = λ (e : SavedEntry). ArePlaced c.args.texts.now e.cells in
    let here : P c.entry-item.result = subst (ArePlaced c.args.texts.now) c.items.ensures (c.are_cells_placed.ensures.0 c.if-not-are_cells_placed.false) in
    subst (All P) (ap (λ x. take i es ++ x ∷ []) c.entry-item.is ∙ sym (take_more es i c.entry-item.result c.loop-entry-test.true))
    (All-push P (take i es) c.entry-item.result c.loop-entry.invariant here)

pub returns : goal.returns
returns c =
    let P = λ (e : SavedEntry). ArePlaced c.args.texts.now e.cells in (
      λ yes. subst (All P) (take_all c.loop-entry.entry-index c.args.entries.now c.loop-entry-test.false) c.loop-entry.invariant,
      λ all. refl,
    )
