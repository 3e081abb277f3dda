use Rattle.std.proofs.Common.{refl, sym, ◌∙◌}
use Rattle.query_text.proofs.Cursors as P
use Rattle.query_text.proofs.cursor.Cursor.takes.Goals as goal

pub returns-then-ne : goal.returns-then-ne
returns-then-ne c = (refl, λ z e. P.other_sign _ _ _ _ _ (sym c.self.view_is ∙ P.first _ _ _ _ _ c.in-Some.ensures.lookup.3.0 c.in-Some.ensures.lookup.1 c.in-Fixed.is) e (sym c.if-ne.ensures))

pub returns : goal.returns
returns c = P.sign_taken c.in-Fixed.found c.args.sign _ _ (sym c.self.view_is ∙ P.first _ _ _ _ _ c.in-Some.ensures.lookup.3.0 c.in-Some.ensures.lookup.1 c.in-Fixed.is) (P.one_sign _ _ (P.not_false _ (sym c.if-ne.ensures)))
