use Rattle.std.proofs.lemmas.Result.{err_from_is_err_and}
use Rattle.tempo_cli.specs.Keeping.{Keeps}
use Rattle.tempo_cli.specs.KeptStatus.{kept_of}
use Rattle.tempo_cli.proofs.Walks.{begins, begins_not}
use Rattle.tempo_cli.proofs.keeping.Keeper.go.Goals as goal

pub returns-in_err-take_checkpoint-clause-ends : goal.returns-in_err-take_checkpoint-clause-ends
returns-in_err-take_checkpoint-clause-ends g c = let p = err_from_is_err_and c.from_residual.result c.from_residual.ensures.1 in rw (p.1, p.2)
    (λ t every begun. begins_not _ begun c.in_err-take_checkpoint.ensures.wanting c.in_err-take_checkpoint.ensures.err)

pub returns-clause-ends : goal.returns-clause-ends
returns-clause-ends g c = λ t every begun. begins {P = Keeps t every (kept_of c.keep_on.result)} begun c.in_ok-take_checkpoint.ensures.same.2 c.in_ok-take_checkpoint.ensures.at c.in_ok-take_checkpoint.ensures.ok (c.keep_on.ensures.ends t every)
