use Rattle.std.proofs.Common.{inr, refl, sym, subst}
use Rattle.command_line.specs.Words.{asked_by}
use Rattle.tempo_cli.specs.Keeping.{IsStartOf, HasState, task_from}
use Rattle.tempo_cli.proofs.Runs.{by_none, by_bytes, by_failure}
use Rattle.tempo_cli.proofs.kept_running.run_plan.Goals as goal

pub returns-in-Ok-None-clause-does : goal.returns-in-Ok-None-clause-does
returns-in-Ok-None-clause-does g c =
    by_none (g.W.KeptWire.told c.args.wire.now) c.in-Ok-None.ensures.same (λ d e. (rw c.in-Ok-None.field-0-is at (c.in-Ok-None.ensures.told.gone d e).2.seen)) c.run_first.ensures.runs

pub returns-in-Ok-Some-clause-does : goal.returns-in-Ok-Some-clause-does
returns-in-Ok-Some-clause-does g c =
    by_bytes (g.W.KeptWire.told c.args.wire.now) c.in-Ok-Some.ensures.same c.in-Ok-Some.bytes.items (λ d e. (rw c.in-Ok-Some.field-0-is at (c.in-Ok-Some.ensures.told.gone d e).2.seen))
    (λ lines start is. c.run_again.ensures.runs lines start (subst (IsStartOf (task_from (asked_by c.args.asked.now) c.args.plan lines start)) (sym c.deref.ensures.value) is))
    (λ isnt. c.run_again.ensures.refused (λ h. isnt (subst (HasState (asked_by c.args.asked.now) c.args.plan) c.deref.ensures.value h)))

pub returns-in-Err-Memory-clause-does : goal.returns-in-Err-Memory-clause-does
returns-in-Err-Memory-clause-does g c = by_failure (g.W.KeptWire.told c.args.wire.now) _ (inr refl) tt c.in-Err-Memory.ensures.same
