use Rattle.query_text.proofs.Steps as P
use Rattle.query_text.proofs.expression.Parser.named.Goals as goal

pub returns-in_err-needs-clause-reads : goal.returns-in_err-needs-clause-reads
returns-in_err-needs-clause-reads c = λ n z end e. P.failed c.in_err-needs.field-0.0 _ _ c.from_residual.ensures.1 (P.not_stuck c.in_err-needs.field-0.0 _ (c.in_err-needs.ensures.reads tt _ tt e))

pub returns-clause-reads : goal.returns-clause-reads
returns-clause-reads c = λ n z end e. c.name.ensures.reads n z tt (c.in_ok-needs.ensures.reads tt _ tt e).0
