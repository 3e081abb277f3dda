use Rattle.std.proofs.Common.{◌≡◌, true, map, refl}
use Rattle.query_text.specs.declared.word.Sign.TheVariants as S
use Rattle.query_text.specs.Grammar as G
use Rattle.query_text.specs.Spelling as M
use Rattle.query_text.specs.Reading.{ends_step, ends_pipe}
use Rattle.query_text.proofs.Steps as P
use Rattle.query_text.proofs.Pipes as Q
use Rattle.query_text.proofs.expression.Parser.pipe.Goals as goal

pub returns-in_err-base-clause-reads : goal.returns-in_err-base-clause-reads
returns-in_err-base-clause-reads c = λ a z end e. P.failed c.in_err-base.field-0.0 _ _ c.from_residual.ensures.1 (P.not_stuck c.in_err-base.field-0.0 _ (c.in_err-base.ensures.reads a.base _ tt e))

pub returns-in_err-next-clause-reads : goal.returns-in_err-next-clause-reads
returns-in_err-next-clause-reads c = λ a z end e. P.failed c.in_err-next.field-0.0 _ _ c.from_residual-in_err-next.ensures.1 (Q.list_free G.pipe_then (λ z. ends_pipe z ≡ true) (λ p. map M.step_of p.steps) G.steps_then (map M.step_of) G.step_then (λ z. ends_step z ≡ true) S.Bar (λ z. refl) (λ x xs z. refl) Q.no_bar Q.ends_steps _ _ _ _ c.more.invariant.listing c.more-test.ensures (λ x w t s. P.not_stuck c.in_err-next.field-0.0 _ (c.in_err-next.ensures.reads x w t s)) a z end e)

pub more-preserved : goal.more-preserved
more-preserved c = record { listing = Q.list_more G.pipe_then (λ z. ends_pipe z ≡ true) (λ p. map M.step_of p.steps) G.steps_then (map M.step_of) G.step_then (λ z. ends_step z ≡ true) M.step_of S.Bar (λ z. refl) (λ x xs z. refl) (λ x xs. refl) Q.no_bar Q.ends_steps _ _ _ _ _ _ _ c.more.invariant.listing c.more-test.ensures c.in_ok-next.ensures.reads c.in_ok-push.ensures.items; fewer = Q.fewer_step _ _ _ _ _ c.more-test.ensures c.in_ok-next.ensures.fewer c.more.invariant.fewer }

pub returns-clause-reads : goal.returns-clause-reads
returns-clause-reads c = λ p z end e. let u = Q.list_end G.pipe_then (λ z. ends_pipe z ≡ true) (λ p. map M.step_of p.steps) G.steps_then (map M.step_of) G.step_then S.Bar (λ z. refl) (λ x xs z. refl) refl _ _ _ _ _ c.more.invariant.listing c.more-test.ensures c.from_vec.ensures p z end e in let b = c.in_ok-base.ensures.reads p.base _ tt e in (u.0, rw (b.1, u.1) refl)
