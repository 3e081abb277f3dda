use Rattle.std.proofs.lemmas.Result.{err_from_is_err_and}
use Rattle.tempo_cli.proofs.Stopping.{end_done, end_stops, own_at}
use Rattle.tempo_cli.proofs.Giving.{stops_never}
use Rattle.tempo_cli.proofs.answering.Answering.finish.Goals as goal

pub returns-clause-ok : goal.returns-clause-ok
returns-clause-ok g c = λ q bytes written e.
    end_done q bytes written c.in_ok-out.out.items c.args.self.now e (c.in_ok-out.ensures.fine q.plan q.policy e.engine.fed e.engine.took) (c.in_ok-out.ensures.text q.plan q.policy e.engine.fed e.engine.took)

pub returns-in_err-out-clause-err : goal.returns-in_err-out-clause-err
returns-in_err-out-clause-err g c = let p = err_from_is_err_and c.from_residual.result c.from_residual.ensures.1 in rw (p.1, p.2) (λ q bytes written e. end_stops q bytes written c.args.self.now e _ (c.in_err-out.ensures.fault q.plan q.policy e.engine.fed e.engine.took))

pub returns-in_err-out-clause-own : goal.returns-in_err-out-clause-own
returns-in_err-out-clause-own g c = let p = err_from_is_err_and c.from_residual.result c.from_residual.ensures.1 in rw (p.1, p.2) (own_at _)

pub returns-in_err-out-clause-reason : goal.returns-in_err-out-clause-reason
returns-in_err-out-clause-reason g c = let p = err_from_is_err_and c.from_residual.result c.from_residual.ensures.1 in rw (p.1, p.2) (λ none k bytes ended. stops_never k _ bytes ended (c.in_err-out.ensures.at_end none))
