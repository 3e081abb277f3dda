use Rattle.std.proofs.Common.{sym, ◌∙◌}
use Rattle.query_text.proofs.Cursors as P
use Rattle.query_text.proofs.cursor.Cursor.takes_leaf.Goals as goal

pub returns-in-Some-clause-takes : goal.returns-in-Some-clause-takes
returns-in-Some-clause-takes c = P.leaf_name _ _ _ (rw c.in-Some.is at c.in_ok-name.ensures).0

pub returns-in-Some-2-clause-takes : goal.returns-in-Some-2-clause-takes
returns-in-Some-2-clause-takes c = P.leaf_text _ _ _ (sym (rw c.in_default.is at c.in_ok-name.ensures).0 ∙ (rw c.in-Some-2.is at c.in_ok-text.ensures).0)

pub returns-in-Some-takes_int-clause-takes : goal.returns-in-Some-takes_int-clause-takes
returns-in-Some-takes_int-clause-takes c = P.leaf_int _ _ _ _ (sym (rw c.in_default.is at c.in_ok-name.ensures).0 ∙ sym (rw c.in_default-2.is at c.in_ok-text.ensures).0 ∙ c.in-Some-takes_int.ensures.0) (P.whole _ c.in-Some-takes_int.ensures.1)

pub returns-in-Some-takes_dec-clause-takes : goal.returns-in-Some-takes_dec-clause-takes
returns-in-Some-takes_dec-clause-takes c = P.leaf_dec _ _ _ _ (sym (rw c.in_default.is at c.in_ok-name.ensures).0 ∙ sym (rw c.in_default-2.is at c.in_ok-text.ensures).0 ∙ sym c.in_default-takes_int.ensures.0 ∙ c.in-Some-takes_dec.ensures.0) (P.whole _ c.in-Some-takes_dec.ensures.1.0)

pub returns-then-takes-clause-takes : goal.returns-then-takes-clause-takes
returns-then-takes-clause-takes c = P.leaf_true _ _ (sym (rw c.in_default.is at c.in_ok-name.ensures).0 ∙ sym (rw c.in_default-2.is at c.in_ok-text.ensures).0 ∙ sym c.in_default-takes_int.ensures.0 ∙ sym c.in_default-takes_dec.ensures.0 ∙ c.if-takes.ensures)

pub returns-then-takes-2-clause-takes : goal.returns-then-takes-2-clause-takes
returns-then-takes-2-clause-takes c = P.leaf_false _ _ (sym (rw c.in_default.is at c.in_ok-name.ensures).0 ∙ sym (rw c.in_default-2.is at c.in_ok-text.ensures).0 ∙ sym c.in_default-takes_int.ensures.0 ∙ sym c.in_default-takes_dec.ensures.0 ∙ sym c.if-takes.ensures.0 ∙ c.if-takes-2.ensures)

pub returns-clause-takes : goal.returns-clause-takes
returns-clause-takes c = P.leaf_none _ _ _ _ _ _ _ (rw c.in_default.is at c.in_ok-name.ensures) (rw c.in_default-2.is at c.in_ok-text.ensures) c.in_default-takes_int.ensures c.in_default-takes_dec.ensures c.if-takes.ensures c.if-takes-2.ensures
