use Rattle.std.proofs.Common.{◌≡◌, ◌+◌, ◌∙◌, [], refl, ap}
use Rattle.wire_lines.proofs.Growth.{Grows-weaker}
use Rattle.command_line.specs.Words.{asked_by}
use Rattle.tempo_engine.specs.declared.engine.Options.{Options}
use Rattle.tempo_cli.specs.Table.{limit}
use Rattle.tempo_cli.specs.Feeding.{from_start}
use Rattle.tempo_cli.proofs.Fed.{took_final}
use Rattle.tempo_cli.proofs.Journals.{at_start}
use Rattle.tempo_cli.proofs.Halting.{form_for, frozen_asked}
use Rattle.tempo_cli.proofs.freezing.answer_frozen.Goals as goal

pub returns-in-Ok-freeze_on-clause-ends : goal.returns-in-Ok-freeze_on-clause-ends
returns-in-Ok-freeze_on-clause-ends g c =
    let asked = asked_by c.args.asked.now in
    let opt = c.options_of-options.ensures in
    let h = c.in-Ok-new.ensures.holds in
    let policy : c.options_of-options.result.policy ≡ c.args.asked.now.policy = ap (λ (o : Options). o.policy) opt in
    let workers : c.in-Ok-new.answering.engine.parts.dataflow.workers ≡ c.args.asked.now.workers = c.in-Ok-new.ensures.workers ∙ ap (λ (o : Options). o.workers) opt in
    let q = from_start c.args.plan c.options_of-options.result.policy c.args.asked.now.header in
    let form = form_for asked c.args.plan c.options_of-options.result.policy c.in-Ok-new.answering.engine.parts.dataflow.workers c.in-Ok.form c.requires.within policy workers c.in-Ok.ensures in
    Grows-weaker (c.in-Ok-freeze_on.ensures.ends c.args.asked.now.query.now q [] form (at_start (limit + 1) refl (took_final q [] _ h.engine).silent h))
    (λ K f. frozen_asked asked c.args.plan c.options_of-options.result.policy c.in-Ok-new.answering.engine.parts.dataflow.workers c.in-Ok.form _ K policy workers c.in-Ok.ensures f)

pub returns-clause-ends : goal.returns-clause-ends
returns-clause-ends g c =
    let asked = asked_by c.args.asked.now in
    let opt = c.options_of-options.ensures in
    let h = c.in-Ok-new.ensures.holds in
    let policy : c.options_of-options.result.policy ≡ c.args.asked.now.policy = ap (λ (o : Options). o.policy) opt in
    let workers : c.in-Ok-new.answering.engine.parts.dataflow.workers ≡ c.args.asked.now.workers = c.in-Ok-new.ensures.workers ∙ ap (λ (o : Options). o.workers) opt in
    let q = from_start c.args.plan c.options_of-options.result.policy c.args.asked.now.header in
    let form = form_for asked c.args.plan c.options_of-options.result.policy c.in-Ok-new.answering.engine.parts.dataflow.workers c.in-Ok.form c.requires.within policy workers c.in-Ok.ensures in
    Grows-weaker (c.in-Err.ensures.ends c.args.asked.now.query.now q [] form (at_start (limit + 1) refl (took_final q [] _ h.engine).silent h))
    (λ K f. frozen_asked asked c.args.plan c.options_of-options.result.policy c.in-Ok-new.answering.engine.parts.dataflow.workers c.in-Ok.form _ K policy workers c.in-Ok.ensures f)
