use Rattle.std.proofs.Common.{refl, sym, subst}
use Rattle.std.proofs.lemmas.Result.{err_from_is_err_and}
use Rattle.tempo_cli.specs.Keeping.{task_after, StartsTask}
use Rattle.tempo_cli.proofs.Adding.{adds_grows, adds_both}
use Rattle.tempo_cli.proofs.Standing.{stands_kept, fails_first, fails_synced, failed_keep}
use Rattle.tempo_cli.proofs.Texts.{last_is}
use Rattle.tempo_cli.proofs.keeping.Keeper.take_checkpoint.Goals as goal

pub returns-in_err-sync_output-clause-err : goal.returns-in_err-sync_output-clause-err
returns-in_err-sync_output-clause-err g c = let p = err_from_is_err_and c.from_residual.result c.from_residual.ensures.1 in rw p.1
    (λ t J given counts s. adds_grows c.in_err-sync_output.ensures.err (fails_first s))

pub returns-in_err-text-clause-err : goal.returns-in_err-text-clause-err
returns-in_err-text-clause-err g c = let p = err_from_is_err_and c.from_residual-in_err-text.result c.from_residual-in_err-text.ensures.1 in rw p.1
    (λ t J given counts s. adds_grows c.in_ok-sync_output.ensures.ok (fails_synced s))

pub returns-in_err-keep-clause-err : goal.returns-in_err-keep-clause-err
returns-in_err-keep-clause-err g c = let p = err_from_is_err_and c.from_residual-in_err-keep.result c.from_residual-in_err-keep.ensures.1 in rw p.1
    (λ t J given counts s. failed_keep s c.in_ok-sync_output.ensures.ok c.in_err-keep.ensures.err (subst (StartsTask (task_after t given)) (sym c.deref.ensures.value) (c.in_ok-text.ensures t J given counts s)))

pub returns-clause-ok : goal.returns-clause-ok
returns-clause-ok g c = λ t J given counts s.
    adds_both c.in_ok-sync_output.ensures.ok c.in_ok-keep.ensures.ok
    (stands_kept s _ _ (refl, refl, refl, refl, refl) (subst (StartsTask (task_after t given)) (sym c.deref.ensures.value) (c.in_ok-text.ensures t J given counts s)))

pub returns-clause-at : goal.returns-clause-at
returns-clause-at g c = λ t J given counts s. last_is s _ c.last_punctuation-self.ensures
