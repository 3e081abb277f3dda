use Rattle.std.proofs.Common.{◌∙◌, ◌++◌, ◌∷◌, [], add-one, sym, ap, take}
use Rattle.std.proofs.Math.Seq.{take-suc}
use Rattle.std.proofs.lemmas.Option.{slice_get_within, get_or_from_slice_get}
use Rattle.tempo_engine.proofs.table.labels_of.Goals as goal

pub loop-place-preserved : goal.loop-place-preserved
loop-place-preserved c =
    let texts = c.args.texts.now in
    let i = c.loop-place.place in
    let e = c.text.ensures in
    rw add-one
    (c.in_ok-push.ensures.items ∙ ap (λ l. l ++ c.in_ok-new.field-0 ∷ []) c.loop-place.invariant
    ∙ ap (λ t. take i texts ++ t ∷ []) (c.in_ok-new.ensures ∙ sym (get_or_from_slice_get texts i c.text.result.now [] e))
    ∙ sym (take-suc texts i [] (slice_get_within texts i c.text.result.now e)))
