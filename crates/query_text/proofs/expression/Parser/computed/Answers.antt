use Rattle.query_text.proofs.Steps as P
use Rattle.query_text.proofs.expression.Parser.computed.Goals as goal

pub returns-in_err-column-clause-reads : goal.returns-in_err-column-clause-reads
returns-in_err-column-clause-reads c = λ p z end e. P.failed c.in_err-column.field-0.0 _ _ c.from_residual.ensures.1 (P.not_stuck c.in_err-column.field-0.0 _ (c.in_err-column.ensures.reads p.0 _ tt e))

pub returns-in_err-name-clause-reads : goal.returns-in_err-name-clause-reads
returns-in_err-name-clause-reads c = λ p z end e.
    let u = c.in_ok-column.ensures.reads p.0 _ tt e in
    P.failed c.in_err-name.field-0.0 _ _ c.from_residual-in_err-name.ensures.1 (P.not_stuck c.in_err-name.field-0.0 _ (c.in_err-name.ensures.reads p.1 _ tt u.0))
