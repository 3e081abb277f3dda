use Rattle.std.proofs.Common.{◌∙◌, arith}
use Rattle.tempo_cli.proofs.Pushing.{both_pushed}
use Rattle.tempo_cli.proofs.Texts.{text_starts}
use Rattle.tempo_cli.proofs.keeping.Keeper.text.Goals as goal

pub returns : goal.returns
returns c = λ t J given counts s.
    text_starts s c.in-Some.input c.in-Ok.frozen _ (omega (arith, c.in-Some.ensures.1, c.passed.ensures)) (omega (arith, c.in-Some.ensures.0, c.in-Some.ensures.1)) (omega (arith, c.if-self.false)) c.in-Ok.ensures.fits c.in_ok-text.ensures.text
    (both_pushed _ _ _ _ _ c.in_ok-push_lines.ensures c.in_ok-push_places.ensures (c.reserve_for.ensures ∙ c.in_ok-text.ensures.none))
