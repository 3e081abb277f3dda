use Rattle.query_text.proofs.Pipes as Q
use Rattle.query_text.proofs.expression.Parser.fills.Goals as goal

pub returns-then-takes-clause-reads : goal.returns-then-takes-clause-reads
returns-then-takes-clause-reads c = Q.else_some _ _ _ c.if-takes.ensures (λ l ls z lacks s. c.literals.ensures.reads (l, ls) z lacks s)
