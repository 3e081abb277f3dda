use Rattle.query_text.proofs.Steps as P
use Rattle.query_text.proofs.expression.Parser.counted.Goals as goal

pub returns-in_err-name-clause-reads : goal.returns-in_err-name-clause-reads
returns-in_err-name-clause-reads c = λ n z end e. P.failed c.in_err-name.field-0.0 _ _ c.from_residual.ensures.1 (P.not_stuck c.in_err-name.field-0.0 _ (c.in_err-name.ensures.reads n _ tt e))
