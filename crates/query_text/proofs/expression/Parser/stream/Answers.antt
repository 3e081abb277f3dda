use Rattle.std.proofs.Common.{refl}
use Rattle.query_text.proofs.Steps as P
use Rattle.query_text.proofs.Pipes as Q
use Rattle.query_text.proofs.expression.Parser.stream.Goals as goal

pub returns-in_err-name-clause-reads : goal.returns-in_err-name-clause-reads
returns-in_err-name-clause-reads c = λ a z end e. P.failed c.in_err-name.field-0.0 _ _ c.from_residual.ensures.1 (P.not_stuck c.in_err-name.field-0.0 _ (c.in_err-name.ensures.reads a.called _ tt e))

pub returns-in_err-needs-clause-reads : goal.returns-in_err-needs-clause-reads
returns-in_err-needs-clause-reads c = λ a z end e. let u1 = c.in_ok-name.ensures.reads a.called _ tt e in P.failed c.in_err-needs.field-0.0 _ _ c.from_residual-in_err-needs.ensures.1 (P.not_stuck c.in_err-needs.field-0.0 _ (c.in_err-needs.ensures.reads tt _ tt u1.0))

pub returns-in_err-schema-clause-reads : goal.returns-in_err-schema-clause-reads
returns-in_err-schema-clause-reads c = λ a z end e. let u1 = c.in_ok-name.ensures.reads a.called _ tt e in let u2 = c.in_ok-needs.ensures.reads tt _ tt u1.0 in P.failed c.in_err-schema.field-0.0 _ _ c.from_residual-in_err-schema.ensures.1 (P.not_stuck c.in_err-schema.field-0.0 _ (c.in_err-schema.ensures.reads (a.first, a.more) _ (Q.no_comma_close _) u2.0))

pub returns-in_err-needs-2-clause-reads : goal.returns-in_err-needs-2-clause-reads
returns-in_err-needs-2-clause-reads c = λ a z end e. let u1 = c.in_ok-name.ensures.reads a.called _ tt e in let u2 = c.in_ok-needs.ensures.reads tt _ tt u1.0 in let u3 = c.in_ok-schema.ensures.reads (a.first, a.more) _ (Q.no_comma_close _) u2.0 in P.failed c.in_err-needs-2.field-0.0 _ _ c.from_residual-in_err-needs-2.ensures.1 (P.not_stuck c.in_err-needs-2.field-0.0 _ (c.in_err-needs-2.ensures.reads tt _ tt u3.0))

pub returns-in_err-needs-3-clause-reads : goal.returns-in_err-needs-3-clause-reads
returns-in_err-needs-3-clause-reads c = λ a z end e. let u1 = c.in_ok-name.ensures.reads a.called _ tt e in let u2 = c.in_ok-needs.ensures.reads tt _ tt u1.0 in let u3 = c.in_ok-schema.ensures.reads (a.first, a.more) _ (Q.no_comma_close _) u2.0 in let u4 = c.in_ok-needs-2.ensures.reads tt _ tt u3.0 in P.failed c.in_err-needs-3.field-0.0 _ _ c.from_residual-in_err-needs-3.ensures.1 (P.not_stuck c.in_err-needs-3.field-0.0 _ (c.in_err-needs-3.ensures.reads tt _ tt u4.0))

pub returns-clause-reads : goal.returns-clause-reads
returns-clause-reads c = λ a z end e. let u1 = c.in_ok-name.ensures.reads a.called _ tt e in let u2 = c.in_ok-needs.ensures.reads tt _ tt u1.0 in let u3 = c.in_ok-schema.ensures.reads (a.first, a.more) _ (Q.no_comma_close _) u2.0 in let u4 = c.in_ok-needs-2.ensures.reads tt _ tt u3.0 in let u5 = c.in_ok-needs-3.ensures.reads tt _ tt u4.0 in (u5.0, rw (u1.1, u3.1) refl)
