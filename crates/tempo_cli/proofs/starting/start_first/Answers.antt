use Rattle.std.proofs.Common.{◌≡◌, ◌∙◌, [], refl, ap, arith, subst}
use Rattle.command_line.specs.Words.{asked_by}
use Rattle.admission.specs.declared.policy.Policy.{Policy}
use Rattle.tempo_engine.specs.declared.engine.Options.{Options}
use Rattle.tempo_cli.specs.Feeding.{from_start, Holds}
use Rattle.tempo_cli.proofs.Starts.{is_for_words, begun}
use Rattle.tempo_cli.proofs.starting.start_first.Goals as goal

pub returns-clause-begun : goal.returns-clause-begun
returns-clause-begun g c =
    let asked = asked_by c.args.asked.now in
    let policy : c.options_of.result.policy ≡ asked.policy = ap (λ (o : Options). o.policy) c.options_of.ensures in
    let workers : c.in_ok-answering.answering.engine.parts.dataflow.workers ≡ asked.workers = c.in_ok-answering.ensures.workers ∙ ap (λ (o : Options). o.workers) c.options_of.ensures in
    let holds = subst (λ (p : Policy). Holds (from_start c.args.plan p asked.header) [] [] c.in_ok-answering.answering) policy c.in_ok-answering.ensures.holds in
    begun _ c.args.every _ (is_for_words _ _ c.requires.within workers c.in_ok-form.ensures refl) holds refl refl (omega arith)
