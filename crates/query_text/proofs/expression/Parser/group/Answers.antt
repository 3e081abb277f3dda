use Rattle.std.proofs.Common.{refl}
use Rattle.query_text.proofs.Steps as P
use Rattle.query_text.proofs.Pipes as Q
use Rattle.query_text.proofs.expression.Parser.group.Goals as goal

pub returns-in_err-needs-clause-reads : goal.returns-in_err-needs-clause-reads
returns-in_err-needs-clause-reads c = λ a z end e. let u = c.in_ok-key.ensures.reads a.0 _ (Q.no_by_colon _, Q.no_comma_colon _) e in P.failed c.in_err-needs.field-0.0 _ _ c.from_residual-in_err-needs.ensures.1 (P.not_stuck c.in_err-needs.field-0.0 _ (c.in_err-needs.ensures.reads tt _ tt u.0))

pub returns-in_err-key-clause-reads : goal.returns-in_err-key-clause-reads
returns-in_err-key-clause-reads c = λ a z end e. P.failed c.in_err-key.field-0.0 _ _ c.from_residual.ensures.1 (P.not_stuck c.in_err-key.field-0.0 _ (c.in_err-key.ensures.reads a.0 _ (Q.no_by_colon _, Q.no_comma_colon _) e))

pub returns-in_err-aggs-clause-reads : goal.returns-in_err-aggs-clause-reads
returns-in_err-aggs-clause-reads c = λ a z end e. let u = c.in_ok-key.ensures.reads a.0 _ (Q.no_by_colon _, Q.no_comma_colon _) e in let v = c.in_ok-needs.ensures.reads tt _ tt u.0 in P.failed c.in_err-aggs.field-0.0 _ _ c.from_residual-in_err-aggs.ensures.1 (P.not_stuck c.in_err-aggs.field-0.0 _ (c.in_err-aggs.ensures.reads (a.1, a.2) z (Q.no_comma z end) v.0))

pub returns-clause-reads : goal.returns-clause-reads
returns-clause-reads c = λ a z end e. let u = c.in_ok-key.ensures.reads a.0 _ (Q.no_by_colon _, Q.no_comma_colon _) e in let v = c.in_ok-needs.ensures.reads tt _ tt u.0 in let x = c.in_ok-aggs.ensures.reads (a.1, a.2) z (Q.no_comma z end) v.0 in (x.0, rw (u.1, x.1) refl)
