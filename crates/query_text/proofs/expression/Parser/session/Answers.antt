use Rattle.std.proofs.Common.{refl}
use Rattle.query_text.proofs.Steps as P
use Rattle.query_text.proofs.Pipes as Q
use Rattle.query_text.proofs.expression.Parser.session.Goals as goal

pub returns-in_err-timeout-clause-reads : goal.returns-in_err-timeout-clause-reads
returns-in_err-timeout-clause-reads c = λ a z end e. P.failed c.in_err-timeout.field-0.0 _ _ c.from_residual.ensures.1 (P.not_stuck c.in_err-timeout.field-0.0 _ (c.in_err-timeout.ensures.reads a.0 _ tt e))

pub returns-in_err-key-clause-reads : goal.returns-in_err-key-clause-reads
returns-in_err-key-clause-reads c = λ a z end e. let u = c.in_ok-timeout.ensures.reads a.0 _ tt e in P.failed c.in_err-key.field-0.0 _ _ c.from_residual-in_err-key.ensures.1 (P.not_stuck c.in_err-key.field-0.0 _ (c.in_err-key.ensures.reads a.1 z (Q.no_by z end, Q.no_comma z end) u.0))

pub returns-clause-reads : goal.returns-clause-reads
returns-clause-reads c = λ a z end e. let u = c.in_ok-timeout.ensures.reads a.0 _ tt e in let v = c.in_ok-key.ensures.reads a.1 z (Q.no_by z end, Q.no_comma z end) u.0 in (v.0, rw (u.1, v.1) refl)
