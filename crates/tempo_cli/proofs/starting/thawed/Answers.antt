use Rattle.std.proofs.Common.{◌∙◌, refl, sym, ap}
use Rattle.wire_lines.specs.Cutter.{CutterState}
use Rattle.command_line.specs.Words.{asked_by}
use Rattle.tempo_cli.proofs.Journals.{limit-is}
use Rattle.tempo_cli.specs.Keeping.{task_from}
use Rattle.tempo_cli.proofs.Starts.{thaw_holds, fits_options, fed_options, state_options}
use Rattle.tempo_cli.proofs.starting.thawed.Goals as goal

pub returns-in-Ok-clause-thaws : goal.returns-in-Ok-clause-thaws
returns-in-Ok-clause-thaws c = λ before fits low output.
    thaw_holds (task_from (asked_by c.args.asked.now) c.args.plan before (record { input = c.args.state.input; output = output })) c.args.state.frozen _ fits low
    (fed_options c.options_of.ensures c.in-Ok.ensures.fed before fits) c.has_header-header.ensures c.lines-base.ensures refl
    (ap (λ (s : CutterState). s.longest) c.in_ok-cutter.ensures.state) (ap (λ (s : CutterState). s.total) c.in_ok-cutter.ensures.state ∙ sym limit-is) c.in_ok-cutter.ensures.lines

pub returns-in-Err-NotState-clause-thaws : goal.returns-in-Err-NotState-clause-thaws
returns-in-Err-NotState-clause-thaws c = λ before fits.
    absurd (c.in-Err-NotState.ensures.refused c.in-Err-NotState.field-0-is (c.what_fits_is_a_state.ensures _ _ _ before _ (fits_options c.options_of.ensures before fits)))

pub returns-in-Ok-clause-state : goal.returns-in-Ok-clause-state
returns-in-Ok-clause-state c = state_options c.options_of.ensures c.in-Ok.ensures.state
