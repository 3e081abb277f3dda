use Rattle.std.proofs.Common.{refl}
use Rattle.query_text.specs.declared.word.Sign.TheVariants as S
use Rattle.query_text.specs.Token.{fixed}
use Rattle.query_text.specs.Grammar as G
use Rattle.query_text.specs.Spelling as M
use Rattle.query_text.specs.Reading as R
use Rattle.query_text.specs.Reading.{Lacks, Any, ends_step, ends_item, ends_pipe}
use Rattle.query_text.proofs.Steps as P
use Rattle.query_text.proofs.Pipes as Q
use Rattle.query_text.proofs.expression.Parser.names.Goals as goal

pub returns-in_err-first-clause-reads : goal.returns-in_err-first-clause-reads
returns-in_err-first-clause-reads c = λ a z end e. P.failed c.in_err-first.field-0.0 _ _ c.from_residual.ensures.1 (P.not_stuck c.in_err-first.field-0.0 _ (c.in_err-first.ensures.reads a.first _ tt e))

pub returns-in_err-next-clause-reads : goal.returns-in_err-next-clause-reads
returns-in_err-next-clause-reads c = λ a z end e. P.failed c.in_err-next.field-0.0 _ _ c.from_residual-in_err-next.ensures.1 (Q.list_free G.names_then (Lacks (fixed S.Comma)) M.names_of G.more_names_then (λ ns. ns) R.name_then (λ _. Unit {0}) S.Comma (λ z. refl) (λ x xs z. refl) (λ z h. h) (λ xs z h. tt) _ _ _ _ c.more.invariant.listing c.more-test.ensures (λ x w t s. P.not_stuck c.in_err-next.field-0.0 _ (c.in_err-next.ensures.reads x w t s)) a z end e)

pub more-preserved : goal.more-preserved
more-preserved c = record { listing = Q.list_more G.names_then (Lacks (fixed S.Comma)) M.names_of G.more_names_then (λ ns. ns) R.name_then (λ _. Unit {0}) (λ n. n) S.Comma (λ z. refl) (λ x xs z. refl) (λ x xs. refl) (λ z h. h) (λ xs z h. tt) _ _ _ _ _ _ _ c.more.invariant.listing c.more-test.ensures c.in_ok-next.ensures.reads c.in_ok-push-2.ensures.items; fewer = Q.fewer_step _ _ _ _ _ c.more-test.ensures c.in_ok-next.ensures.fewer c.more.invariant.fewer }

pub returns-clause-reads : goal.returns-clause-reads
returns-clause-reads c = Q.list_end G.names_then (Lacks (fixed S.Comma)) M.names_of G.more_names_then (λ ns. ns) R.name_then S.Comma (λ z. refl) (λ x xs z. refl) refl _ _ _ _ _ c.more.invariant.listing c.more-test.ensures c.from_vec.ensures
