use Rattle.query_text.proofs.Steps as P
use Rattle.query_text.proofs.expression.Parser.hop.Goals as goal

pub returns-in_err-size-clause-reads : goal.returns-in_err-size-clause-reads
returns-in_err-size-clause-reads c = λ p z end e. P.failed c.in_err-size.field-0.0 _ _ c.from_residual.ensures.1 (P.not_stuck c.in_err-size.field-0.0 _ (c.in_err-size.ensures.reads p.0 _ tt e))

pub returns-in_err-period-clause-reads : goal.returns-in_err-period-clause-reads
returns-in_err-period-clause-reads c = λ p z end e.
    let u = c.in_ok-size.ensures.reads p.0 _ tt e in
    P.failed c.in_err-period.field-0.0 _ _ c.from_residual-in_err-period.ensures.1 (P.not_stuck c.in_err-period.field-0.0 _ (c.in_err-period.ensures.reads p.1 _ tt u.0))
