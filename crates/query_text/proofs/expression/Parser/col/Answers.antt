use Rattle.query_text.proofs.Steps as P
use Rattle.query_text.proofs.Columns as Q
use Rattle.query_text.proofs.expression.Parser.col.Goals as goal

pub returns-in_err-name-clause-reads : goal.returns-in_err-name-clause-reads
returns-in_err-name-clause-reads c = λ a z end e. P.failed c.in_err-name.field-0.0 _ _ c.from_residual.ensures.1 (Q.col_free _ (λ n w s. P.not_stuck c.in_err-name.field-0.0 _ (c.in_err-name.ensures.reads n w tt s)) a z e)

pub returns-in_err-places-in-Some-DecKind-clause-reads : goal.returns-in_err-places-in-Some-DecKind-clause-reads
returns-in_err-places-in-Some-DecKind-clause-reads c = Q.col_dec _ _ _ _ _ c.in_ok-name.ensures.reads (rw c.in-Some-DecKind.field-0-is at c.in-Some-DecKind.ensures).0 (λ n p z v s. P.failed c.in_err-places-in-Some-DecKind.field-0.0 _ _ c.from_residual-in_err-places-in-Some-DecKind.ensures.1 (P.not_stuck c.in_err-places-in-Some-DecKind.field-0.0 _ (c.in_err-places-in-Some-DecKind.ensures.reads p z tt s)))
