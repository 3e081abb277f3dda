use Rattle.std.proofs.Common.{refl}
use Rattle.query_text.proofs.Steps as P
use Rattle.query_text.proofs.Pipes as Q
use Rattle.query_text.proofs.expression.Parser.step.Goals as goal

pub returns-in_err-tree-in-Some-Where-clause-reads : goal.returns-in_err-tree-in-Some-Where-clause-reads
returns-in_err-tree-in-Some-Where-clause-reads c = Q.step_where _ _ _ (rw c.in-Some-Where.field-0-is at c.in-Some-Where.ensures).0 (λ x z end s. P.failed c.in_err-tree-in-Some-Where.field-0.0 _ _ c.from_residual.ensures.1 (P.not_stuck c.in_err-tree-in-Some-Where.field-0.0 _ (c.in_err-tree-in-Some-Where.ensures.reads x z (Q.low_step z end) s)))

pub returns-in_err-items-in-Some-Select-clause-reads : goal.returns-in_err-items-in-Some-Select-clause-reads
returns-in_err-items-in-Some-Select-clause-reads c = Q.step_select _ _ _ (rw c.in-Some-Select.field-0-is at c.in-Some-Select.ensures).0 (λ i is z end s. P.failed c.in_err-items-in-Some-Select.field-0.0 _ _ c.from_residual-in_err-items-in-Some-Select.ensures.1 (P.not_stuck c.in_err-items-in-Some-Select.field-0.0 _ (c.in_err-items-in-Some-Select.ensures.reads (i, is) z end s)))

pub returns-in_err-name-in-Some-Union-clause-reads : goal.returns-in_err-name-in-Some-Union-clause-reads
returns-in_err-name-in-Some-Union-clause-reads c = Q.step_union _ _ _ (rw c.in-Some-Union.field-0-is at c.in-Some-Union.ensures).0 (λ n z end s. P.failed c.in_err-name-in-Some-Union.field-0.0 _ _ c.from_residual-in_err-name-in-Some-Union.ensures.1 (P.not_stuck c.in_err-name-in-Some-Union.field-0.0 _ (c.in_err-name-in-Some-Union.ensures.reads n z tt s)))

pub returns-in_err-number-in-Some-Delay-clause-reads : goal.returns-in_err-number-in-Some-Delay-clause-reads
returns-in_err-number-in-Some-Delay-clause-reads c = Q.step_delay _ _ _ (rw c.in-Some-Delay.field-0-is at c.in-Some-Delay.ensures).0 (λ n z end s. P.failed c.in_err-number-in-Some-Delay.field-0.0 _ _ c.from_residual-in_err-number-in-Some-Delay.ensures.1 (P.not_stuck c.in_err-number-in-Some-Delay.field-0.0 _ (c.in_err-number-in-Some-Delay.ensures.reads n z tt s)))

pub returns-in_err-number-in-Some-Duration-clause-reads : goal.returns-in_err-number-in-Some-Duration-clause-reads
returns-in_err-number-in-Some-Duration-clause-reads c = Q.step_duration _ _ _ (rw c.in-Some-Duration.field-0-is at c.in-Some-Duration.ensures).0 (λ n z end s. P.failed c.in_err-number-in-Some-Duration.field-0.0 _ _ c.from_residual-in_err-number-in-Some-Duration.ensures.1 (P.not_stuck c.in_err-number-in-Some-Duration.field-0.0 _ (c.in_err-number-in-Some-Duration.ensures.reads n z tt s)))

pub returns-in_err-number-in-Some-Extend-clause-reads : goal.returns-in_err-number-in-Some-Extend-clause-reads
returns-in_err-number-in-Some-Extend-clause-reads c = Q.step_extend _ _ _ (rw c.in-Some-Extend.field-0-is at c.in-Some-Extend.ensures).0 (λ n z end s. P.failed c.in_err-number-in-Some-Extend.field-0.0 _ _ c.from_residual-in_err-number-in-Some-Extend.ensures.1 (P.not_stuck c.in_err-number-in-Some-Extend.field-0.0 _ (c.in_err-number-in-Some-Extend.ensures.reads n z tt s)))

pub returns-in_err-size-in-Some-Tumble-clause-reads : goal.returns-in_err-size-in-Some-Tumble-clause-reads
returns-in_err-size-in-Some-Tumble-clause-reads c = Q.step_tumble _ _ _ (rw c.in-Some-Tumble.field-0-is at c.in-Some-Tumble.ensures).0 (λ n z end s. P.failed c.in_err-size-in-Some-Tumble.field-0.0 _ _ c.from_residual-in_err-size-in-Some-Tumble.ensures.1 (P.not_stuck c.in_err-size-in-Some-Tumble.field-0.0 _ (c.in_err-size-in-Some-Tumble.ensures.reads n z tt s)))

pub returns-in_err-right-in-Some-Clip-clause-reads : goal.returns-in_err-right-in-Some-Clip-clause-reads
returns-in_err-right-in-Some-Clip-clause-reads c = Q.step_clip _ _ _ (rw c.in-Some-Clip.field-0-is at c.in-Some-Clip.ensures).0 (λ n o z end s. P.failed c.in_err-right-in-Some-Clip.field-0.0 _ _ c.from_residual-in_err-right-in-Some-Clip.ensures.1 (P.not_stuck c.in_err-right-in-Some-Clip.field-0.0 _ (c.in_err-right-in-Some-Clip.ensures.reads (n, o) z end s)))

pub returns-in_err-right-in-Some-Join-clause-reads : goal.returns-in_err-right-in-Some-Join-clause-reads
returns-in_err-right-in-Some-Join-clause-reads c = Q.step_join _ _ _ (rw c.in-Some-Join.field-0-is at c.in-Some-Join.ensures).0 (λ n o z end s. P.failed c.in_err-right-in-Some-Join.field-0.0 _ _ c.from_residual-in_err-right-in-Some-Join.ensures.1 (P.not_stuck c.in_err-right-in-Some-Join.field-0.0 _ (c.in_err-right-in-Some-Join.ensures.reads (n, o) z end s)))

pub returns-in_err-right-in-Some-Anti-clause-reads : goal.returns-in_err-right-in-Some-Anti-clause-reads
returns-in_err-right-in-Some-Anti-clause-reads c = Q.step_anti _ _ _ (rw c.in-Some-Anti.field-0-is at c.in-Some-Anti.ensures).0 (λ n o z end s. P.failed c.in_err-right-in-Some-Anti.field-0.0 _ _ c.from_residual-in_err-right-in-Some-Anti.ensures.1 (P.not_stuck c.in_err-right-in-Some-Anti.field-0.0 _ (c.in_err-right-in-Some-Anti.ensures.reads (n, o) z end s)))

pub returns-in_ok-tree-in-Some-Where-clause-reads : goal.returns-in_ok-tree-in-Some-Where-clause-reads
returns-in_ok-tree-in-Some-Where-clause-reads c = Q.step_where _ _ _ (rw c.in-Some-Where.field-0-is at c.in-Some-Where.ensures).0 (λ x z end s. let u = c.in_ok-tree-in-Some-Where.ensures.reads x z (Q.low_step z end) s in (u.0, rw u.1 refl))

pub returns-in_ok-items-in-Some-Select-clause-reads : goal.returns-in_ok-items-in-Some-Select-clause-reads
returns-in_ok-items-in-Some-Select-clause-reads c = Q.step_select _ _ _ (rw c.in-Some-Select.field-0-is at c.in-Some-Select.ensures).0 (λ i is z end s. let u = c.in_ok-items-in-Some-Select.ensures.reads (i, is) z end s in (u.0, rw u.1 refl))

pub returns-in_ok-right-in-Some-Clip-clause-reads : goal.returns-in_ok-right-in-Some-Clip-clause-reads
returns-in_ok-right-in-Some-Clip-clause-reads c = Q.step_clip _ _ _ (rw c.in-Some-Clip.field-0-is at c.in-Some-Clip.ensures).0 (λ n o z end s. let u = c.in_ok-right-in-Some-Clip.ensures.reads (n, o) z end s in (u.0, rw (u.1.0, u.1.1) refl))

pub returns-in_ok-right-in-Some-Join-clause-reads : goal.returns-in_ok-right-in-Some-Join-clause-reads
returns-in_ok-right-in-Some-Join-clause-reads c = Q.step_join _ _ _ (rw c.in-Some-Join.field-0-is at c.in-Some-Join.ensures).0 (λ n o z end s. let u = c.in_ok-right-in-Some-Join.ensures.reads (n, o) z end s in (u.0, rw (u.1.0, u.1.1) refl))

pub returns-in_ok-right-in-Some-Anti-clause-reads : goal.returns-in_ok-right-in-Some-Anti-clause-reads
returns-in_ok-right-in-Some-Anti-clause-reads c = Q.step_anti _ _ _ (rw c.in-Some-Anti.field-0-is at c.in-Some-Anti.ensures).0 (λ n o z end s. let u = c.in_ok-right-in-Some-Anti.ensures.reads (n, o) z end s in (u.0, rw (u.1.0, u.1.1) refl))

pub returns-in-Some-Hop-clause-reads : goal.returns-in-Some-Hop-clause-reads
returns-in-Some-Hop-clause-reads c = Q.step_hop _ _ _ (rw c.in-Some-Hop.field-0-is at c.in-Some-Hop.ensures).0 (λ n p z end s. c.hop.ensures.reads (n, p) z tt s)

pub returns-in-Some-Session-clause-reads : goal.returns-in-Some-Session-clause-reads
returns-in-Some-Session-clause-reads c = Q.step_session _ _ _ (rw c.in-Some-Session.field-0-is at c.in-Some-Session.ensures).0 (λ n b z end s. c.session.ensures.reads (n, b) z end s)

pub returns-in-Some-Group-clause-reads : goal.returns-in-Some-Group-clause-reads
returns-in-Some-Group-clause-reads c = Q.step_group _ _ _ (rw c.in-Some-Group.field-0-is at c.in-Some-Group.ensures).0 (λ b a as_ z end s. c.group.ensures.reads (b, a, as_) z end s)

pub returns-in-Some-Coalesce-clause-reads : goal.returns-in-Some-Coalesce-clause-reads
returns-in-Some-Coalesce-clause-reads c = Q.step_coalesce _ _ _ (rw c.in-Some-Coalesce.field-0-is at c.in-Some-Coalesce.ensures).0 (λ z end s. (s, refl))

pub returns-in-Some-Left-clause-reads : goal.returns-in-Some-Left-clause-reads
returns-in-Some-Left-clause-reads c = Q.step_left _ _ _ (rw c.in-Some-Left.field-0-is at c.in-Some-Left.ensures).0 (λ n o x z end s. c.left.ensures.reads (n, o, x) z end s)

pub returns-in-Some-Top-clause-reads : goal.returns-in-Some-Top-clause-reads
returns-in-Some-Top-clause-reads c = Q.step_top _ _ _ (rw c.in-Some-Top.field-0-is at c.in-Some-Top.ensures).0 (λ n p x z end s. c.top.ensures.reads (n, p, x) z tt s)

pub returns-in-Some-Follow-clause-reads : goal.returns-in-Some-Follow-clause-reads
returns-in-Some-Follow-clause-reads c = Q.step_follow _ _ _ (rw c.in-Some-Follow.field-0-is at c.in-Some-Follow.ensures).0 (λ n o m z end s. c.follow.ensures.reads (n, o, m) z tt s)
