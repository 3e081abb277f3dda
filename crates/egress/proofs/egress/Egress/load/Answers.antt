use Rattle.std.specs.Prelude.{None}
use Rattle.std.proofs.Common.{sym, ◌∙◌, ap, subst}
use Rattle.std.proofs.lemmas.Result.{err_from_is_err_and}
use Rattle.egress.specs.Waiting.{waiting_in, ArePut}
use Rattle.egress.specs.Saving.{starts_of, ends_of, IsSound}
use Rattle.egress.proofs.Entries.{resumed, loaded_placed}
use Rattle.egress.proofs.egress.Egress.load.Goals as goal

pub returns-clause-holds : goal.returns-clause-holds
returns-clause-holds c = λ texts h r.
    resumed _ c.args.saved.now c.args.closed (λ q. c.in_ok-loaded.ensures.starts q ∙ ap (λ es. starts_of es q) c.entries.ensures) c.in_ok-loaded.ensures.open
    (subst (λ es. ArePut (λ t. None) (waiting_in c.in_ok-loaded.loaded.waiting) (ends_of es)) c.entries.ensures c.in_ok-loaded.ensures.waiting)
    texts h c.requires.empty r

pub returns-clause-placed : goal.returns-clause-placed
returns-clause-placed c = λ texts placed.
    loaded_placed texts c.args.saved.now (waiting_in c.in_ok-loaded.loaded.waiting)
    (subst (λ es. ArePut (λ t. None) (waiting_in c.in_ok-loaded.loaded.waiting) (ends_of es)) c.entries.ensures c.in_ok-loaded.ensures.waiting) placed

pub returns-clause-sound : goal.returns-clause-sound
returns-clause-sound c =
    subst (λ ks. IsSound ks c.args.saved.now c.args.closed) c.deref.ensures.value
    (subst (λ es. IsSound c.deref.result.now es c.args.closed) c.entries.ensures c.in_ok-loaded.ensures.sound)

pub returns-in_err-loaded-clause-refused : goal.returns-in_err-loaded-clause-refused
returns-in_err-loaded-clause-refused c = let p = err_from_is_err_and c.from_residual.result c.from_residual.ensures.1 in rw (p.1, p.2) (λ is sound.
    c.in_err-loaded.ensures.refused is
    (subst (λ ks. IsSound ks c.entries.result.now c.args.closed) (sym c.deref.ensures.value)
    (subst (λ es. IsSound c.args.self.now.rows.kinds.items es c.args.closed) (sym c.entries.ensures) sound)))
