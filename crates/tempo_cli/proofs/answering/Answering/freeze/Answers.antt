use Rattle.std.proofs.Common.{ap, subst}
use Rattle.std.proofs.lemmas.Result.{err_from_is_err_and}
use Rattle.tempo_engine.specs.Frozen.{Fits}
use Rattle.tempo_cli.specs.Feeding.{status_at}
use Rattle.tempo_cli.proofs.Stopping.{own_at}
use Rattle.tempo_cli.proofs.answering.Answering.freeze.Goals as goal

pub returns-clause-fits : goal.returns-clause-fits
returns-clause-fits c = λ q bytes written e.
    subst (λ ls. Fits c.args.self.now.engine.parts.dataflow.workers q.plan q.policy ls c.in_ok-frozen.frozen) e.engine.is (c.in_ok-frozen.ensures.fits q.plan q.policy e.engine.fed e.engine.took)

pub returns-in_err-frozen-clause-err : goal.returns-in_err-frozen-clause-err
returns-in_err-frozen-clause-err c = let p = err_from_is_err_and c.from_residual.result c.from_residual.ensures.1 in rw (p.1, p.2) (λ q bytes written e. ap status_at (c.in_err-frozen.ensures.fault e.engine.took.by.none))

pub returns-in_err-frozen-clause-own : goal.returns-in_err-frozen-clause-own
returns-in_err-frozen-clause-own c = let p = err_from_is_err_and c.from_residual.result c.from_residual.ensures.1 in rw (p.1, p.2) (own_at _)
