use Rattle.std.proofs.Common.{subst, IfSome, ℕ}
use Rattle.query_text.specs.IsTree.{IsTreeNode}
use Rattle.query_text.proofs.Steps as P
use Rattle.query_text.proofs.expression.Parser.+expression.Goals as goal

pub and-returns-then-not-takes-clause-reads : goal.and-returns-then-not-takes-clause-reads
and-returns-then-not-takes-clause-reads t c = P.ands_none _ _ _ c.if-not-takes.ensures

pub and-returns-in_err-right-clause-reads : goal.and-returns-in_err-right-clause-reads
and-returns-in_err-right-clause-reads t c = λ r z low e. P.failed c.in_err-right.field-0.0 _ _ c.from_residual.ensures.1 (P.ands_free _ _ c.if-not-takes.ensures (λ n w l s. P.not_stuck c.in_err-right.field-0.0 _ (c.in_err-right.ensures.reads n w l s)) r z low e)

pub and-returns-clause-reads : goal.and-returns-clause-reads
and-returns-clause-reads t c = P.ands_went _ _ _ _ _ _ _ _ c.if-not-takes.ensures c.last-left.ensures c.in_ok-right.ensures.reads c.in_ok-right.ensures.root c.in_ok-push.ensures

pub atom-push-requires : goal.atom-push-requires
atom-push-requires t c = (subst (λ o. IfSome o (λ node. (i : ℕ) → IsTreeNode i node)) c.in-Some.is c.in_ok-leaf.ensures.node) _

pub atom-returns-in_err-root-clause-reads : goal.atom-returns-in_err-root-clause-reads
atom-returns-in_err-root-clause-reads t c = λ r z low e. P.failed c.in_err-root.field-0.0 _ _ c.from_residual-in_err-root.ensures.1 (P.parens_free _ _ _ (rw c.in_default.is at c.in_ok-leaf.ensures.takes) c.if-not-takes.ensures (λ n w l s. P.not_stuck c.in_err-root.field-0.0 _ (c.in_err-root.ensures.reads n w l s)) r z low e)

pub atom-returns-then-not-takes-2-clause-reads : goal.atom-returns-then-not-takes-2-clause-reads
atom-returns-then-not-takes-2-clause-reads t c = P.parens_left _ _ _ _ _ _ _ (rw c.in_default.is at c.in_ok-leaf.ensures.takes) c.if-not-takes.ensures c.in_ok-root.ensures.reads c.if-not-takes-2.ensures

pub atom-returns-clause-reads : goal.atom-returns-clause-reads
atom-returns-clause-reads t c = P.parens_went _ _ _ _ _ _ _ (rw c.in_default.is at c.in_ok-leaf.ensures.takes) c.if-not-takes.ensures c.in_ok-root.ensures.reads c.if-not-takes-2.ensures

pub conj-returns-in_err-neg-clause-reads : goal.conj-returns-in_err-neg-clause-reads
conj-returns-in_err-neg-clause-reads t c = λ r z low e. P.failed c.in_err-neg.field-0.0 _ _ c.from_residual.ensures.1 (P.conj_first _ (λ n w l s. P.not_stuck c.in_err-neg.field-0.0 _ (c.in_err-neg.ensures.reads n w l s)) r z low e)

pub conj-ands-init : goal.conj-ands-init
conj-ands-init t c = record { going = P.conj_begins _ _ _ _ c.in_ok-neg.ensures.reads; more = c.in_ok-neg.ensures.grows; fewer = c.in_ok-neg.ensures.shrinks }

pub expr-returns-in_err-conj-clause-reads : goal.expr-returns-in_err-conj-clause-reads
expr-returns-in_err-conj-clause-reads t c = λ r z low e. P.failed c.in_err-conj.field-0.0 _ _ c.from_residual.ensures.1 (P.expr_first _ (λ n w l s. P.not_stuck c.in_err-conj.field-0.0 _ (c.in_err-conj.ensures.reads n w l s)) r z low e)

pub expr-ors-init : goal.expr-ors-init
expr-ors-init t c = record { going = P.expr_begins _ _ _ _ c.in_ok-conj.ensures.reads; more = c.in_ok-conj.ensures.grows; fewer = c.in_ok-conj.ensures.shrinks }

pub factor-returns-in_err-right-clause-reads : goal.factor-returns-in_err-right-clause-reads
factor-returns-in_err-right-clause-reads t c = λ r z low e. P.failed c.in_err-right.field-0.0 _ _ c.from_residual.ensures.1 (P.times_free _ _ c.if-takes.ensures (λ n w l s. P.not_stuck c.in_err-right.field-0.0 _ (c.in_err-right.ensures.reads n w l s)) r z low e)

pub factor-returns-then-takes-clause-reads : goal.factor-returns-then-takes-clause-reads
factor-returns-then-takes-clause-reads t c = P.times_went _ _ _ _ _ _ _ _ c.if-takes.ensures c.last-left.ensures c.in_ok-right.ensures.reads c.in_ok-right.ensures.root c.in_ok-push.ensures

pub factor-returns-in_err-by-clause-reads : goal.factor-returns-in_err-by-clause-reads
factor-returns-in_err-by-clause-reads t c = λ r z low e. absurd (P.div_free _ _ _ _ c.if-takes.ensures c.if-takes-2.ensures c.in_err-by.ensures.stuck.1 r z low e)

pub factor-returns-then-takes-2-clause-reads : goal.factor-returns-then-takes-2-clause-reads
factor-returns-then-takes-2-clause-reads t c = P.div_went _ _ _ _ _ _ _ _ _ c.if-takes.ensures c.if-takes-2.ensures c.in_ok-by.ensures.reads c.in_ok-by.ensures.kept c.last-of.ensures c.in_ok-push-2.ensures

pub factor-returns-in_err-by-2-clause-reads : goal.factor-returns-in_err-by-2-clause-reads
factor-returns-in_err-by-2-clause-reads t c = λ r z low e. absurd (P.mod_free _ _ _ _ _ c.if-takes.ensures c.if-takes-2.ensures c.if-takes-3.ensures c.in_err-by-2.ensures.stuck.1 r z low e)

pub factor-returns-then-takes-3-clause-reads : goal.factor-returns-then-takes-3-clause-reads
factor-returns-then-takes-3-clause-reads t c = P.mod_went _ _ _ _ _ _ _ _ _ _ c.if-takes.ensures c.if-takes-2.ensures c.if-takes-3.ensures c.in_ok-by-2.ensures.reads c.in_ok-by-2.ensures.kept c.last-of-then-takes-3.ensures c.in_ok-push-3.ensures

pub factor-returns-clause-reads : goal.factor-returns-clause-reads
factor-returns-clause-reads t c = P.factors_none _ _ _ _ _ c.if-takes.ensures c.if-takes-2.ensures c.if-takes-3.ensures

pub neg-returns-in_err-sum-clause-reads : goal.neg-returns-in_err-sum-clause-reads
neg-returns-in_err-sum-clause-reads t c = λ r z low e. P.failed c.in_err-sum.field-0.0 _ _ c.from_residual.ensures.1 (P.cmp_free _ _ c.if-not-takes.ensures (λ n w l s. P.not_stuck c.in_err-sum.field-0.0 _ (c.in_err-sum.ensures.reads n w l s)) r z low e)

pub neg-returns-then-not-takes-clause-reads : goal.neg-returns-then-not-takes-clause-reads
neg-returns-then-not-takes-clause-reads t c = P.cmp_went c.test.result _ _ _ _ _ _ _ c.if-not-takes.ensures c.in_ok-sum.ensures.reads c.test.ensures.reads

pub neg-returns-in_err-of-clause-reads : goal.neg-returns-in_err-of-clause-reads
neg-returns-in_err-of-clause-reads t c = λ r z low e. P.failed c.in_err-of.field-0.0 _ _ c.from_residual-in_err-of.ensures.1 (P.neg_free _ _ c.if-not-takes.ensures (λ n w l s. P.not_stuck c.in_err-of.field-0.0 _ (c.in_err-of.ensures.reads n w l s)) r z low e)

pub neg-returns-clause-reads : goal.neg-returns-clause-reads
neg-returns-clause-reads t c = P.neg_not _ _ _ _ _ _ _ c.if-not-takes.ensures c.in_ok-of.ensures.reads c.in_ok-of.ensures.root c.in_ok-push.ensures

pub or-returns-then-not-takes-clause-reads : goal.or-returns-then-not-takes-clause-reads
or-returns-then-not-takes-clause-reads t c = P.ors_none _ _ _ c.if-not-takes.ensures

pub or-returns-in_err-right-clause-reads : goal.or-returns-in_err-right-clause-reads
or-returns-in_err-right-clause-reads t c = λ r z low e. P.failed c.in_err-right.field-0.0 _ _ c.from_residual.ensures.1 (P.ors_free _ _ c.if-not-takes.ensures (λ n w l s. P.not_stuck c.in_err-right.field-0.0 _ (c.in_err-right.ensures.reads n w l s)) r z low e)

pub or-returns-clause-reads : goal.or-returns-clause-reads
or-returns-clause-reads t c = P.ors_went _ _ _ _ _ _ _ _ c.if-not-takes.ensures c.last-left.ensures c.in_ok-right.ensures.reads c.in_ok-right.ensures.root c.in_ok-push.ensures

pub prod-returns-in_err-unary-clause-reads : goal.prod-returns-in_err-unary-clause-reads
prod-returns-in_err-unary-clause-reads t c = λ r z low e. P.failed c.in_err-unary.field-0.0 _ _ c.from_residual.ensures.1 (P.prod_first _ (λ n w l s. P.not_stuck c.in_err-unary.field-0.0 _ (c.in_err-unary.ensures.reads n w l s)) r z low e)

pub prod-factors-init : goal.prod-factors-init
prod-factors-init t c = record { going = P.prod_begins _ _ _ _ c.in_ok-unary.ensures.reads; more = c.in_ok-unary.ensures.grows; fewer = c.in_ok-unary.ensures.shrinks }

pub sum-returns-in_err-prod-clause-reads : goal.sum-returns-in_err-prod-clause-reads
sum-returns-in_err-prod-clause-reads t c = λ r z low e. P.failed c.in_err-prod.field-0.0 _ _ c.from_residual.ensures.1 (P.sum_first _ (λ n w l s. P.not_stuck c.in_err-prod.field-0.0 _ (c.in_err-prod.ensures.reads n w l s)) r z low e)

pub sum-terms-init : goal.sum-terms-init
sum-terms-init t c = record { going = P.sum_begins _ _ _ _ c.in_ok-prod.ensures.reads; more = c.in_ok-prod.ensures.grows; fewer = c.in_ok-prod.ensures.shrinks }

pub term-returns-in_default-clause-reads : goal.term-returns-in_default-clause-reads
term-returns-in_default-clause-reads t c = P.terms_none _ _ _ c.in_default.ensures

pub term-returns-in_err-right-clause-reads : goal.term-returns-in_err-right-clause-reads
term-returns-in_err-right-clause-reads t c = λ r z low e. P.failed c.in_err-right.field-0.0 _ _ c.from_residual.ensures.1 (P.terms_free c.in-Some.op _ _ c.in-Some.ensures (λ n w l s. P.not_stuck c.in_err-right.field-0.0 _ (c.in_err-right.ensures.reads n w l s)) r z low e)

pub term-returns-clause-reads : goal.term-returns-clause-reads
term-returns-clause-reads t c = P.terms_went c.in-Some.op _ _ _ _ _ _ _ _ c.in-Some.ensures c.last-left.ensures c.in_ok-right.ensures.reads c.in_ok-right.ensures.root c.in_ok-push.ensures

pub test-returns-in_default-clause-reads : goal.test-returns-in_default-clause-reads
test-returns-in_default-clause-reads t c = P.test_none _ _ _ c.in_default.ensures

pub test-returns-in_err-right-clause-reads : goal.test-returns-in_err-right-clause-reads
test-returns-in_err-right-clause-reads t c = λ r z low e. P.failed c.in_err-right.field-0.0 _ _ c.from_residual.ensures.1 (P.test_free c.in-Some.op _ _ c.in-Some.ensures (λ n w l s. P.not_stuck c.in_err-right.field-0.0 _ (c.in_err-right.ensures.reads n w l s)) r z low e)

pub test-returns-clause-reads : goal.test-returns-clause-reads
test-returns-clause-reads t c = P.test_went c.in-Some.op _ _ _ _ _ _ _ _ c.in-Some.ensures c.last-left.ensures c.in_ok-right.ensures.reads c.in_ok-right.ensures.root c.in_ok-push.ensures

pub unary-returns-then-not-takes-clause-reads : goal.unary-returns-then-not-takes-clause-reads
unary-returns-then-not-takes-clause-reads t c = P.unary_atom c.atom.result _ _ _ _ _ c.if-not-takes.ensures c.atom.ensures.reads

pub unary-returns-in_err-of-clause-reads : goal.unary-returns-in_err-of-clause-reads
unary-returns-in_err-of-clause-reads t c = λ r z low e. P.failed c.in_err-of.field-0.0 _ _ c.from_residual.ensures.1 (P.unary_free _ _ c.if-not-takes.ensures (λ n w l s. P.not_stuck c.in_err-of.field-0.0 _ (c.in_err-of.ensures.reads n w l s)) r z low e)

pub unary-returns-clause-reads : goal.unary-returns-clause-reads
unary-returns-clause-reads t c = P.unary_minus _ _ _ _ _ _ _ c.if-not-takes.ensures c.in_ok-of.ensures.reads c.in_ok-of.ensures.root c.in_ok-push.ensures
