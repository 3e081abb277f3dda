use Rattle.std.proofs.Common.{◌≡◌, ◌∷◌, [], ◌∙◌, true, take, get_or, refl, sym, subst, arith}
use Rattle.std.specs.Prelude.{All}
use Rattle.std.proofs.lemmas.List.{take_more, take_all}
use Rattle.std.proofs.lemmas.List.Elements.{All-nil, All-cons, All-append}
use Rattle.edge_stream.specs.declared.saved.SavedEntry.{SavedEntry}
use Rattle.shard_apply.specs.Saving.{is_row_of}
use Rattle.shard_apply.proofs.loading.are_rows_of.Goals as goal

pub loop-entry-preserved : goal.loop-entry-preserved
loop-entry-preserved g c =
    let P : SavedEntry → Type 0 = λ e. is_row_of c.args.keys.now.count c.args.keys.now.left.now c.args.keys.now.right.now c.args.keys.now.first.now c.args.number
    e.cells (g.O.Operator.row_of_part e.part) ≡ true in
    let items = c.entries-entry-items.result.now in
    let i = c.loop-entry.entry-index in
    let x = c.entry-item.result in
    let here : P x = sym c.is_row_of_shard.ensures ∙ c.if-not-is_row_of_shard.false in
    subst (All P) (sym (take_more items i x c.loop-entry-test.true))
    (All-append P (take i items) (get_or items i x ∷ []) c.loop-entry.invariant (All-cons P (get_or items i x) [] (subst P c.entry-item.is here) (All-nil P)))

pub returns : goal.returns
returns g c =
    let P : SavedEntry → Type 0 = λ e. is_row_of c.args.keys.now.count c.args.keys.now.left.now c.args.keys.now.right.now c.args.keys.now.first.now c.args.number
    e.cells (g.O.Operator.row_of_part e.part) ≡ true in
    let items = c.entries-entry-items.result.now in
    (λ is. subst (All P) (take_all c.loop-entry.entry-index items (omega (arith, c.loop-entry-test.false)) ∙ c.entries-entry-items.ensures) c.loop-entry.invariant, λ all. refl)
