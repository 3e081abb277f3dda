use Rattle.std.proofs.Common.{List, length, refl, sym, subst, append-nil}
use Rattle.wire_lines.proofs.Growth.{Grows-none, Grows-weaker}
use Rattle.admission.specs.Entries.{Told}
use Rattle.tempo_engine.specs.Frozen.{Fits}
use Rattle.tempo_cli.specs.Jobs.{HasResumed}
use Rattle.tempo_cli.specs.declared.status.Status.TheVariants as statuses
use Rattle.tempo_cli.proofs.Behind.{behind}
use Rattle.tempo_cli.proofs.Journals.{Grows-all}
use Rattle.tempo_cli.proofs.TakenUp.{fitting, goes_on_from, rules_behind, stands_behind, behind_resumes, no_state, no_room, no_words, no_query}
use Rattle.tempo_cli.proofs.resuming.take_up.Goals as goal

pub returns-in-Ok-answer_behind-clause-resumes : goal.returns-in-Ok-answer_behind-clause-resumes
returns-in-Ok-answer_behind-clause-resumes g c = λ query J k.
    let fits = fitting query c.args.options.workers c.args.plan c.args.options.policy (c.what_fits_is_a_state.ensures c.args.options.workers c.args.plan c.args.options.policy) in
    Grows-weaker (Grows-all {X = (before : List Told) × Fits c.args.options.workers c.args.plan c.args.options.policy before c.args.restored.frozen}
    (c.in-Ok-answer_behind.ensures.grew (rules_behind k c.args.plan) J (stands_behind k c.args.plan _ refl c.in-Ok.ensures.going.0 c.in-Ok.ensures.plan c.lines-base.ensures refl))
    (λ x. c.in-Ok-answer_behind.ensures.ends (behind c.args.plan c.args.options.policy x.0 (length k.given)) J (goes_on_from k fits _ refl refl c.lines-base.ensures refl x.0 x.1 (c.in-Ok.ensures.fed x.0 x.1))))
    (λ K t. behind_resumes k fits statuses.Done K t.0 (no_words statuses.Done c.in-Ok-answer_behind.ensures.asked) (no_query statuses.Done c.in-Ok-answer_behind.ensures.asked) c.in-Ok.ensures.state t.1)

pub returns-in-Ok-clause-resumes : goal.returns-in-Ok-clause-resumes
returns-in-Ok-clause-resumes g c = λ query J k.
    let fits = fitting query c.args.options.workers c.args.plan c.args.options.policy (c.what_fits_is_a_state.ensures c.args.options.workers c.args.plan c.args.options.policy) in
    Grows-weaker (Grows-all {X = (before : List Told) × Fits c.args.options.workers c.args.plan c.args.options.policy before c.args.restored.frozen}
    (c.in-Err.ensures.grew (rules_behind k c.args.plan) J (stands_behind k c.args.plan _ refl c.in-Ok.ensures.going.0 c.in-Ok.ensures.plan c.lines-base.ensures refl))
    (λ x. c.in-Err.ensures.ends (behind c.args.plan c.args.options.policy x.0 (length k.given)) J (goes_on_from k fits _ refl refl c.lines-base.ensures refl x.0 x.1 (c.in-Ok.ensures.fed x.0 x.1))))
    (λ K t. behind_resumes k fits c.in-Err.status K t.0 (no_words c.in-Err.status c.in-Err.ensures.asked) (no_query c.in-Err.status c.in-Err.ensures.asked) c.in-Ok.ensures.state t.1)

pub returns-in-Err-NotState-clause-resumes : goal.returns-in-Err-NotState-clause-resumes
returns-in-Err-NotState-clause-resumes g c = λ query J k.
    let fits = fitting query c.args.options.workers c.args.plan c.args.options.policy (c.what_fits_is_a_state.ensures c.args.options.workers c.args.plan c.args.options.policy) in
    Grows-none _ (subst (HasResumed query c.args.options.workers c.args.plan c.args.options.policy (statuses.BadCheckpoint c.args.restoring.taken)) (sym (append-nil J))
    (no_state k fits c.args.restoring.taken k.number (c.in-Err-NotState.ensures.refused c.in-Err-NotState.field-0-is)))

pub returns-clause-resumes : goal.returns-clause-resumes
returns-clause-resumes g c = λ query J k.
    let fits = fitting query c.args.options.workers c.args.plan c.args.options.policy (c.what_fits_is_a_state.ensures c.args.options.workers c.args.plan c.args.options.policy) in
    Grows-none _ (subst (HasResumed query c.args.options.workers c.args.plan c.args.options.policy statuses.Memory) (sym (append-nil J)) (no_room k fits))
