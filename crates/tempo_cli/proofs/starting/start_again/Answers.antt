use Rattle.std.proofs.Common.{Ok, Err, refl, sym, arith, subst}
use Rattle.std.proofs.lemmas.Result.{err_from_is_err_and}
use Rattle.command_line.specs.Words.{asked_by}
use Rattle.frozen_state.proofs.Names.{parts_apart}
use Rattle.frozen_state.specs.Forms.{AreApart}
use Rattle.checkpoint.specs.Form.{FormView}
use Rattle.tempo_cli.specs.Keeping.{task_from}
use Rattle.tempo_cli.proofs.Starts.{is_for_words, begun, read_as, again_holds, again_wants, unread_wants, starts_again, has_state}
use Rattle.tempo_cli.proofs.starting.start_again.Goals as goal

pub returns-clause-starts : goal.returns-clause-starts
returns-clause-starts g c = λ before start is.
    let t = task_from (asked_by c.args.asked.now) c.args.plan before start in
    let read = read_as {t = t} is c.in_ok-read_form.ensures (Ok c.in_ok-state.state) c.in_ok-state.ensures.read in
    let holds = again_holds {t = t} is c.in_ok-read_form.ensures c.in_ok-state.state c.in_ok-answering.answering read c.in_ok-answering.ensures.thaws in
    starts_again t c.args.every _ c.in_ok-start_at.ensures.ok read.1 read.2
    (begun t c.args.every _ (is_for_words t _ c.requires.within c.in_ok-answering.ensures.fresh.workers c.in_ok-form.ensures read.1) holds refl read.2 (omega (arith, is.low.1)))

pub returns-in_err-state-clause-wanting : goal.returns-in_err-state-clause-wanting
returns-in_err-state-clause-wanting g c = let p = err_from_is_err_and c.from_residual-in_err-state.result c.from_residual-in_err-state.ensures.1 in rw (p.1, p.2) (λ before start is.
    let t = task_from (asked_by c.args.asked.now) c.args.plan before start in
    unread_wants {t = t} is c.in_ok-read_form.ensures c.in_err-state.field-0.0 (read_as {t = t} is c.in_ok-read_form.ensures (Err c.in_err-state.field-0.0) c.in_err-state.ensures.read))

pub returns-in_err-answering-clause-wanting : goal.returns-in_err-answering-clause-wanting
returns-in_err-answering-clause-wanting g c = let p = err_from_is_err_and c.from_residual-in_err-answering.result c.from_residual-in_err-answering.ensures.1 in rw (p.1, p.2) (λ before start is.
    let t = task_from (asked_by c.args.asked.now) c.args.plan before start in
    again_wants {t = t} is c.in_ok-read_form.ensures c.in_ok-state.state c.in_err-answering.field-0.0 (read_as {t = t} is c.in_ok-read_form.ensures (Ok c.in_ok-state.state) c.in_ok-state.ensures.read) c.in_err-answering.ensures.thaws)

pub read_state-requires : goal.read_state-requires
read_state-requires g c = subst (λ (x : FormView). AreApart x.parts) (sym c.in_ok-read_form.ensures) (parts_apart (asked_by c.args.asked.now).workers c.args.plan)

pub returns-clause-state : goal.returns-clause-state
returns-clause-state g c = has_state (asked_by c.args.asked.now) c.args.plan c.args.bytes.now _ c.in_ok-state.state c.in_ok-read_form.ensures c.in_ok-state.ensures.begins c.in_ok-answering.ensures.state
