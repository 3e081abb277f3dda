use Rattle.std.proofs.Common.{inl}
use Rattle.std.proofs.lemmas.Result.{err_from_is_err_and}
use Rattle.wire_lines.proofs.Growth.{Grows-weaker}
use Rattle.command_line.specs.Words.{asked_by}
use Rattle.tempo_cli.specs.Keeping.{task_from}
use Rattle.tempo_cli.specs.KeptStatus.{kept_of}
use Rattle.tempo_cli.proofs.Runs.{runs_on}
use Rattle.tempo_cli.proofs.kept_running.run_again.Goals as goal

pub returns-in_err-keeper-clause-runs : goal.returns-in_err-keeper-clause-runs
returns-in_err-keeper-clause-runs g c = let p = err_from_is_err_and c.from_residual.result c.from_residual.ensures.1 in rw (p.1, p.2)
    (λ before start is. Grows-weaker c.in_err-keeper.ensures.silent (λ J e. inl (e, c.in_err-keeper.ensures.wanting before start is)))

pub returns-clause-runs : goal.returns-clause-runs
returns-clause-runs g c = λ before start is.
    runs_on (kept_of c.go.result) (task_from (asked_by c.args.asked.now) c.args.plan before start) (c.in_ok-keeper.ensures.starts before start is) (λ t begun. c.go.ensures.ends t _ begun)

pub returns-in_err-keeper-clause-refused : goal.returns-in_err-keeper-clause-refused
returns-in_err-keeper-clause-refused g c = let p = err_from_is_err_and c.from_residual.result c.from_residual.ensures.1 in rw (p.1, p.2)
    (λ none. Grows-weaker c.in_err-keeper.ensures.silent (λ J e. (e, c.in_err-keeper.ensures.refusal)))

pub returns-clause-refused : goal.returns-clause-refused
returns-clause-refused g c = λ none. absurd (none c.in_ok-keeper.ensures.state)
