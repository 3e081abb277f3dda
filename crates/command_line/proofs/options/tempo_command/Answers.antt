use Rattle.std.proofs.Common.{◌≡◌, ◌∙◌, ap₂, codes}
use Rattle.std.proofs.lemmas.Result.{IfOk-weaker}
use Rattle.clap.specs.Words.{App, app_of, new_app, with_rule}
use Rattle.clap.specs.declared.builder.value_parser.ValueParser.TheVariants as vp
use Rattle.command_line.specs.Options.{batch_rule, checkpoint_rule, events_rule, every_rule, header_rule, input_rule, late_rule, lateness_rule, mode_rule, number_rule, punctuate_rule, query_rule, workers_rule}
use Rattle.command_line.proofs.options.tempo_command.Goals as goal

pub returns : goal.returns
returns c =
    let mode = c.mode_option.ensures.rule in
    let late = c.late_option.ensures.rule in
    let a1 : App = with_rule (new_app (codes "tempo")) query_rule in
    let a2 : App = with_rule a1 (mode_rule (vp.Names mode.0)) in
    let a3 : App = with_rule a2 batch_rule in
    let a4 : App = with_rule a3 workers_rule in
    let a5 : App = with_rule a4 header_rule in
    let a6 : App = with_rule a5 (late_rule (vp.Names late.0)) in
    let a7 : App = with_rule a6 lateness_rule in
    let a8 : App = with_rule a7 punctuate_rule in
    let a9 : App = with_rule a8 number_rule in
    let a10 : App = with_rule a9 events_rule in
    let a11 : App = with_rule a10 checkpoint_rule in
    let a12 : App = with_rule a11 every_rule in
    let a13 : App = with_rule a12 input_rule in
    let one : app_of c.in_ok-arg.field-0 ≡ a1 = c.in_ok-arg.ensures.shape c.query_option.ensures.local ∙ ap₂ with_rule c.bare_command.ensures c.query_option.ensures.rule in
    let two : app_of c.in_ok-arg-2.field-0 ≡ a2 = c.in_ok-arg-2.ensures.shape c.mode_option.ensures.local ∙ ap₂ with_rule one mode.2 in
    let three : app_of c.in_ok-arg-3.field-0 ≡ a3 = c.in_ok-arg-3.ensures.shape c.batch_option.ensures.local ∙ ap₂ with_rule two c.batch_option.ensures.rule in
    let four : app_of c.in_ok-arg-4.field-0 ≡ a4 = c.in_ok-arg-4.ensures.shape c.workers_option.ensures.local ∙ ap₂ with_rule three c.workers_option.ensures.rule in
    let five : app_of c.in_ok-arg-5.field-0 ≡ a5 = c.in_ok-arg-5.ensures.shape c.header_option.ensures.local ∙ ap₂ with_rule four c.header_option.ensures.rule in
    let six : app_of c.in_ok-arg-6.field-0 ≡ a6 = c.in_ok-arg-6.ensures.shape c.late_option.ensures.local ∙ ap₂ with_rule five late.2 in
    let seven : app_of c.in_ok-arg-7.field-0 ≡ a7 = c.in_ok-arg-7.ensures.shape c.lateness_option.ensures.local ∙ ap₂ with_rule six c.lateness_option.ensures.rule in
    let eight : app_of c.in_ok-arg-8.field-0 ≡ a8 = c.in_ok-arg-8.ensures.shape c.punctuate_option.ensures.local ∙ ap₂ with_rule seven c.punctuate_option.ensures.rule in
    let nine : app_of c.in_ok-arg-9.field-0 ≡ a9 = c.in_ok-arg-9.ensures.shape c.number_option.ensures.local ∙ ap₂ with_rule eight c.number_option.ensures.rule in
    let ten : app_of c.in_ok-arg-10.field-0 ≡ a10 = c.in_ok-arg-10.ensures.shape c.events_option.ensures.local ∙ ap₂ with_rule nine c.events_option.ensures.rule in
    let eleven : app_of c.in_ok-arg-11.field-0 ≡ a11 = c.in_ok-arg-11.ensures.shape c.checkpoint_option.ensures.local ∙ ap₂ with_rule ten c.checkpoint_option.ensures.rule in
    let twelve : app_of c.in_ok-arg-12.field-0 ≡ a12 = c.in_ok-arg-12.ensures.shape c.every_option.ensures.local ∙ ap₂ with_rule eleven c.every_option.ensures.rule in
    let thirteen : app_of c.in_ok-arg-13.field-0 ≡ a13 = c.in_ok-arg-13.ensures.shape c.input_option.ensures.local ∙ ap₂ with_rule twelve c.input_option.ensures.rule in
    IfOk-weaker c.arg-14.result _ _ (λ r added. (mode.0, late.0, mode.1, late.1, added.shape c.output_option.ensures.local ∙ ap₂ with_rule thirteen c.output_option.ensures.rule)) c.arg-14.ensures
