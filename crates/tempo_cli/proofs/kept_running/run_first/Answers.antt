use Rattle.std.proofs.lemmas.Result.{err_from_is_err_and}
use Rattle.tempo_cli.specs.KeptStatus.{kept_of}
use Rattle.tempo_cli.proofs.Runs.{runs_first, runs_not_first}
use Rattle.tempo_cli.proofs.kept_running.run_first.Goals as goal

pub returns-in_err-keeper-clause-runs : goal.returns-in_err-keeper-clause-runs
returns-in_err-keeper-clause-runs g c = let p = err_from_is_err_and c.from_residual.result c.from_residual.ensures.1 in rw (p.1, p.2) (runs_not_first _ c.in_err-keeper.ensures.silent c.in_err-keeper.ensures.wanting)

pub returns-clause-runs : goal.returns-clause-runs
returns-clause-runs g c = runs_first {k = c.in_ok-keeper.keeper} (kept_of c.go.result) c.in_ok-keeper.ensures.starts c.in_ok-keeper.ensures.begun (λ t begun. c.go.ensures.ends t _ begun)
