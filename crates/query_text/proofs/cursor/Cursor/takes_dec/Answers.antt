use Rattle.std.proofs.Common.{sym, ◌∙◌}
use Rattle.query_text.proofs.Cursors as P
use Rattle.query_text.proofs.cursor.Cursor.takes_dec.Goals as goal

pub returns : goal.returns
returns c =
    let f = P.form _ _ _ _ _ c.self.invariant.1 c.in-Some.ensures.lookup.3.0 c.in-Some.ensures.lookup.1 c.in-Decimal.is in
    (sym c.self.view_is ∙ P.first _ _ _ _ _ c.in-Some.ensures.lookup.3.0 c.in-Some.ensures.lookup.1 c.in-Decimal.is, (f.1, f.2))
