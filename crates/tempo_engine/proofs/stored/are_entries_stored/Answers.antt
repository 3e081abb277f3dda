use Rattle.std.specs.Prelude.{◌++◌, ◌∷◌, [], All}
use Rattle.std.proofs.Common.{◌∙◌, ap, refl, sym, subst, take}
use Rattle.std.proofs.lemmas.List.{take_more, take_all}
use Rattle.std.proofs.lemmas.List.Elements.{All-push}
use Rattle.frozen_state.specs.Formed.{IsStoredIn}
use Rattle.tempo_engine.proofs.stored.are_entries_stored.Goals as goal

pub loop-entry-preserved : goal.loop-entry-preserved
loop-entry-preserved c =
    let es = c.args.entries.now in
    let i = c.loop-entry.entry-index in
    let P = IsStoredIn c.args.form.now.rows in
    subst (All P) (ap (λ x. take i es ++ x ∷ []) c.entry-item.is ∙ sym (take_more es i c.entry-item.result c.loop-entry-test.true))
    (All-push P (take i es) c.entry-item.result c.loop-entry.invariant (c.is_stored.ensures.0 c.if-not-is_stored.false))

pub returns : goal.returns
returns c = (
  λ yes. subst (All (IsStoredIn c.args.form.now.rows)) (take_all c.loop-entry.entry-index c.args.entries.now c.loop-entry-test.false) c.loop-entry.invariant,
  λ all. refl,
)
