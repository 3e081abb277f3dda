use Rattle.std.proofs.Common.{refl}
use Rattle.query_text.proofs.Steps as P
use Rattle.query_text.proofs.Pipes as Q
use Rattle.query_text.proofs.expression.Parser.left.Goals as goal

pub returns-in_err-right-clause-reads : goal.returns-in_err-right-clause-reads
returns-in_err-right-clause-reads c = λ a z end e. P.failed c.in_err-right.field-0.0 _ _ c.from_residual.ensures.1 (P.not_stuck c.in_err-right.field-0.0 _ (c.in_err-right.ensures.reads a.0 _ tt e))

pub returns-in_err-key-clause-reads : goal.returns-in_err-key-clause-reads
returns-in_err-key-clause-reads c = λ a z end e. let u = c.in_ok-right.ensures.reads a.0 _ tt e in P.failed c.in_err-key.field-0.0 _ _ c.from_residual-in_err-key.ensures.1 (P.not_stuck c.in_err-key.field-0.0 _ (c.in_err-key.ensures.reads a.1 _ (Q.no_on_else a.2 z end, Q.no_comma_else a.2 z end) u.0))

pub returns-in_err-fills-clause-reads : goal.returns-in_err-fills-clause-reads
returns-in_err-fills-clause-reads c = λ a z end e. let u = c.in_ok-right.ensures.reads a.0 _ tt e in let v = c.in_ok-key.ensures.reads a.1 _ (Q.no_on_else a.2 z end, Q.no_comma_else a.2 z end) u.0 in P.failed c.in_err-fills.field-0.0 _ _ c.from_residual-in_err-fills.ensures.1 (P.not_stuck c.in_err-fills.field-0.0 _ (c.in_err-fills.ensures.reads a.2 z (Q.no_else z end, Q.no_comma z end) v.0))

pub returns-clause-reads : goal.returns-clause-reads
returns-clause-reads c = λ a z end e. let u = c.in_ok-right.ensures.reads a.0 _ tt e in let v = c.in_ok-key.ensures.reads a.1 _ (Q.no_on_else a.2 z end, Q.no_comma_else a.2 z end) u.0 in let x = c.in_ok-fills.ensures.reads a.2 z (Q.no_else z end, Q.no_comma z end) v.0 in (x.0, rw (u.1, v.1, x.1) refl)
