use Rattle.std.proofs.Common.{sym, ◌∙◌}
use Rattle.query_text.proofs.Cursors as P
use Rattle.query_text.proofs.cursor.Cursor.takes_pos.Goals as goal

pub returns : goal.returns
returns c = (
  sym c.self.view_is ∙ P.first _ _ _ _ _ c.in-Some.ensures.lookup.3.0 c.in-Some.ensures.lookup.1 c.in-Number.is,
  (P.above_zero _ c.if-number-eq0.false, (P.form _ _ _ _ _ c.self.invariant.1 c.in-Some.ensures.lookup.3.0 c.in-Some.ensures.lookup.1 c.in-Number.is).1),
)
