use Rattle.query_text.proofs.Steps as P
use Rattle.query_text.proofs.Pipes as Q
use Rattle.query_text.proofs.expression.Parser.item.Goals as goal

pub returns-in_err-tree-clause-reads : goal.returns-in_err-tree-clause-reads
returns-in_err-tree-clause-reads c = λ i z end e. P.failed c.in_err-tree.field-0.0 _ _ c.from_residual-in_err-tree.ensures.1 (Q.item_free _ (λ n w l s. P.not_stuck c.in_err-tree.field-0.0 _ (c.in_err-tree.ensures.reads n w l s)) i z end e)

pub returns-in_err-name-clause-reads : goal.returns-in_err-name-clause-reads
returns-in_err-name-clause-reads c = λ i z end e. P.failed c.in_err-name.field-0.0 _ _ c.from_residual-in_err-name.ensures.1 (Q.item_name_free _ _ _ _ c.in_ok-tree.ensures.reads c.if-takes.ensures (λ n w l s. P.not_stuck c.in_err-name.field-0.0 _ (c.in_err-name.ensures.reads n w l s)) i z end e)

pub returns-then-takes-clause-reads : goal.returns-then-takes-clause-reads
returns-then-takes-clause-reads c = Q.item_named _ _ _ _ _ _ c.in_ok-tree.ensures.reads c.if-takes.ensures c.in_ok-name.ensures.reads

pub returns-in-Some-clause-reads : goal.returns-in-Some-clause-reads
returns-in-Some-clause-reads c = Q.item_alone _ _ _ _ _ (rw c.in-Some.is at c.in_ok-ahead.ensures) c.in_ok-tree.ensures.reads c.if-takes.ensures

pub returns-in-None-clause-reads : goal.returns-in-None-clause-reads
returns-in-None-clause-reads c = Q.item_lost _ _ _ (rw c.in-None.is at c.in_ok-ahead.ensures) c.in_ok-tree.ensures.reads c.if-takes.ensures.1
