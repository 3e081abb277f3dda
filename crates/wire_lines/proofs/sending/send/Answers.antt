use Rattle.wire_lines.proofs.Growth.{Grows-none, Grows-adds, Grows-same, Grows-weaker, sent_none, sent_more, sent_front, sent_all}
use Rattle.std.proofs.Common.{Ok, Err, Result, refl, sym, ◌∙◌}
use Rattle.std.specs.Prelude.{OnErr}
use Rattle.std.proofs.lemmas.Bool.{eqb-true}
use Rattle.wire_lines.proofs.sending.send.Goals as goal

any : {T E : Type 0} (r : Result T E) (P : Type 0) → P → OnErr r P
any (Ok x) P h = tt
any (Err e) P h = h

pub loop-rest-init : goal.loop-rest-init
loop-rest-init g c = (Grows-none _ (sent_none _), refl, refl)

pub loop-rest-preserved : goal.loop-rest-preserved
loop-rest-preserved g c = (
  Grows-adds c.loop-rest.invariant.0 c.in_ok-count.ensures.told (λ J s. sent_more c.in_ok-count.count J s),
  c.in_ok-count.ensures.cause.same ∙ c.loop-rest.invariant.1,
  c.in_ok-count.ensures.other.same ∙ c.loop-rest.invariant.2,
)

pub returns-in_err-count-clause-err : goal.returns-in_err-count-clause-err
returns-in_err-count-clause-err g c = any c.from_residual.result _ (Grows-same (Grows-weaker c.loop-rest.invariant.0 sent_front) c.in_err-count.ensures.told)

pub returns-clause-ok : goal.returns-clause-ok
returns-clause-ok g c = Grows-weaker c.loop-rest.invariant.0 (λ J s. sent_all _ J (eqb-true _ _ (sym c.loop-rest-test.ensures)) s)
