use Rattle.std.proofs.Common.{refl}
use Rattle.query_text.proofs.Steps as P
use Rattle.query_text.proofs.Pipes as Q
use Rattle.query_text.proofs.expression.Parser.follow.Goals as goal

pub returns-in_err-right-clause-reads : goal.returns-in_err-right-clause-reads
returns-in_err-right-clause-reads c = λ a z end e. P.failed c.in_err-right.field-0.0 _ _ c.from_residual.ensures.1 (P.not_stuck c.in_err-right.field-0.0 _ (c.in_err-right.ensures.reads a.0 _ tt e))

pub returns-in_err-key-clause-reads : goal.returns-in_err-key-clause-reads
returns-in_err-key-clause-reads c = λ a z end e. let u1 = c.in_ok-right.ensures.reads a.0 _ tt e in P.failed c.in_err-key.field-0.0 _ _ c.from_residual-in_err-key.ensures.1 (P.not_stuck c.in_err-key.field-0.0 _ (c.in_err-key.ensures.reads a.1 _ (Q.no_on_within _, Q.no_comma_within _) u1.0))

pub returns-in_err-needs-clause-reads : goal.returns-in_err-needs-clause-reads
returns-in_err-needs-clause-reads c = λ a z end e. let u1 = c.in_ok-right.ensures.reads a.0 _ tt e in let u2 = c.in_ok-key.ensures.reads a.1 _ (Q.no_on_within _, Q.no_comma_within _) u1.0 in P.failed c.in_err-needs.field-0.0 _ _ c.from_residual-in_err-needs.ensures.1 (P.not_stuck c.in_err-needs.field-0.0 _ (c.in_err-needs.ensures.reads tt _ tt u2.0))

pub returns-in_err-within-clause-reads : goal.returns-in_err-within-clause-reads
returns-in_err-within-clause-reads c = λ a z end e. let u1 = c.in_ok-right.ensures.reads a.0 _ tt e in let u2 = c.in_ok-key.ensures.reads a.1 _ (Q.no_on_within _, Q.no_comma_within _) u1.0 in let u3 = c.in_ok-needs.ensures.reads tt _ tt u2.0 in P.failed c.in_err-within.field-0.0 _ _ c.from_residual-in_err-within.ensures.1 (P.not_stuck c.in_err-within.field-0.0 _ (c.in_err-within.ensures.reads a.2 _ tt u3.0))

pub returns-clause-reads : goal.returns-clause-reads
returns-clause-reads c = λ a z end e. let u1 = c.in_ok-right.ensures.reads a.0 _ tt e in let u2 = c.in_ok-key.ensures.reads a.1 _ (Q.no_on_within _, Q.no_comma_within _) u1.0 in let u3 = c.in_ok-needs.ensures.reads tt _ tt u2.0 in let u4 = c.in_ok-within.ensures.reads a.2 _ tt u3.0 in (u4.0, rw (u1.1, u2.1, u4.1) refl)
