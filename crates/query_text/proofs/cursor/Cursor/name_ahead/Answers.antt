use Rattle.query_text.proofs.Cursors as P
use Rattle.query_text.proofs.cursor.Cursor.name_ahead.Goals as goal

pub overflow_add-spot : goal.overflow_add-spot
overflow_add-spot c = P.fits _ _ _ (P.form _ _ _ _ _ c.self.invariant.1 c.in-Some.ensures.lookup.3.0 c.in-Some.ensures.lookup.1 c.in-Name.is).within c.self.told.0.0

pub range-requires-clause-start_boundary : goal.range-requires-clause-start_boundary
range-requires-clause-start_boundary c = λ _. (P.cut _ _ _ _ _ c.self.invariant.2 c.self.invariant.1 c.in-Some.ensures.lookup.3.0 c.in-Some.ensures.lookup.1 c.in-Name.is).0.0

pub range-requires-clause-end_boundary : goal.range-requires-clause-end_boundary
range-requires-clause-end_boundary c = (P.cut _ _ _ _ _ c.self.invariant.2 c.self.invariant.1 c.in-Some.ensures.lookup.3.0 c.in-Some.ensures.lookup.1 c.in-Name.is).0.1
