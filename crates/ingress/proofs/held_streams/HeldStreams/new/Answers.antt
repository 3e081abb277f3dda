use Rattle.std.specs.Prelude.{◌≤◌, length}
use Rattle.std.proofs.Common.{◌∙◌, ap, sym, subst}
use Rattle.ingress.proofs.held_streams.HeldStreams.new.Goals as goal

pub new-requires-clause-width : goal.new-requires-clause-width
new-requires-clause-width c =
    subst (λ l. length l ≤ 32) (sym (c.deref.ensures.value ∙ ap (λ k. k.items) c.columns-item.is)) (c.requires.width c.loop-columns.columns-index c.columns-item.result c.loop-columns-test.true)
