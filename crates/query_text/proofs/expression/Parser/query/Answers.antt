use Rattle.std.proofs.Common.{refl}
use Rattle.query_text.proofs.Steps as P
use Rattle.query_text.proofs.Pipes as Q
use Rattle.query_text.proofs.expression.Parser.query.Goals as goal

pub returns-in_err-streams : goal.returns-in_err-streams
returns-in_err-streams c = λ a z end e. P.failed c.in_err-streams.field-0.0 _ _ c.from_residual.ensures.1 (P.not_stuck c.in_err-streams.field-0.0 _ (c.in_err-streams.ensures.reads (a.stream, a.streams) _ (Q.no_stream a.lets a.body z) e))

pub returns-in_err-lets : goal.returns-in_err-lets
returns-in_err-lets c = λ a z end e. let u1 = c.in_ok-streams.ensures.reads (a.stream, a.streams) _ (Q.no_stream a.lets a.body z) e in P.failed c.in_err-lets.field-0.0 _ _ c.from_residual-in_err-lets.ensures.1 (P.not_stuck c.in_err-lets.field-0.0 _ (c.in_err-lets.ensures.reads a.lets _ (Q.no_let a.body.base _) u1.0))

pub returns-in_err-body : goal.returns-in_err-body
returns-in_err-body c = λ a z end e. let u1 = c.in_ok-streams.ensures.reads (a.stream, a.streams) _ (Q.no_stream a.lets a.body z) e in let u2 = c.in_ok-lets.ensures.reads a.lets _ (Q.no_let a.body.base _) u1.0 in P.failed c.in_err-body.field-0.0 _ _ c.from_residual-in_err-body.ensures.1 (P.not_stuck c.in_err-body.field-0.0 _ (c.in_err-body.ensures.reads a.body z end u2.0))

pub returns : goal.returns
returns c = λ a z end e. let u1 = c.in_ok-streams.ensures.reads (a.stream, a.streams) _ (Q.no_stream a.lets a.body z) e in let u2 = c.in_ok-lets.ensures.reads a.lets _ (Q.no_let a.body.base _) u1.0 in let u3 = c.in_ok-body.ensures.reads a.body z end u2.0 in (u3.0, rw (u1.1, u2.1, u3.1) refl)
