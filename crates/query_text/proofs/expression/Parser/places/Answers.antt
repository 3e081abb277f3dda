use Rattle.std.proofs.Common.{arith}
use Rattle.query_text.proofs.Steps as P
use Rattle.query_text.proofs.Columns as Q
use Rattle.query_text.proofs.expression.Parser.places.Goals as goal

pub returns-in_err-needs-clause-reads : goal.returns-in_err-needs-clause-reads
returns-in_err-needs-clause-reads c = λ p z end e. P.failed c.in_err-needs.field-0.0 _ _ c.from_residual.ensures.1 (P.not_stuck c.in_err-needs.field-0.0 _ (c.in_err-needs.ensures.reads tt _ tt e))

pub returns-in_err-number-clause-reads : goal.returns-in_err-number-clause-reads
returns-in_err-number-clause-reads c = λ p z end e. let u1 = c.in_ok-needs.ensures.reads tt _ tt e in P.failed c.in_err-number.field-0.0 _ _ c.from_residual-in_err-number.ensures.1 (P.not_stuck c.in_err-number.field-0.0 _ (c.in_err-number.ensures.reads p.number _ tt u1.0))

pub returns-then-number-gt18-clause-reads : goal.returns-then-number-gt18-clause-reads
returns-then-number-gt18-clause-reads c = λ p z end e.
    let u1 = c.in_ok-needs.ensures.reads tt _ tt e in
    let u2 = c.in_ok-number.ensures.reads p.number _ tt u1.0 in
    let same = u2.1 in
    let few = Q.few_places p in
    let more = c.if-number-gt18.true in
    omega arith

pub returns-in_err-needs-2-clause-reads : goal.returns-in_err-needs-2-clause-reads
returns-in_err-needs-2-clause-reads c = λ p z end e. let u1 = c.in_ok-needs.ensures.reads tt _ tt e in let u2 = c.in_ok-number.ensures.reads p.number _ tt u1.0 in P.failed c.in_err-needs-2.field-0.0 _ _ c.from_residual-in_err-needs-2.ensures.1 (P.not_stuck c.in_err-needs-2.field-0.0 _ (c.in_err-needs-2.ensures.reads tt _ tt u2.0))

pub returns-clause-reads : goal.returns-clause-reads
returns-clause-reads c = λ p z end e. let u1 = c.in_ok-needs.ensures.reads tt _ tt e in let u2 = c.in_ok-number.ensures.reads p.number _ tt u1.0 in let u3 = c.in_ok-needs-2.ensures.reads tt _ tt u2.0 in (u3.0, u2.1)
