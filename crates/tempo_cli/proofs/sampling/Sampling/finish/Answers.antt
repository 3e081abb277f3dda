use Rattle.std.proofs.Common.{◌++◌, ◌∙◌, false, ap}
use Rattle.tempo_cli.specs.Feeding.{answers_to}
use Rattle.tempo_cli.proofs.Summed.{all_text, summary_is}
use Rattle.tempo_cli.proofs.sampling.Sampling.finish.Goals as goal

pub returns-clause-text : goal.returns-clause-text
returns-clause-text g c = λ q all h.
    let text = (answers_to q).text h.given false in
    let all_of = all_text h c.requires.end c.in_ok-last.last.items (c.in_ok-last.ensures.text q.plan q.policy h.engine.fed h.engine.took) in
    summary_is h c.requires.end (text ++ c.deref.result.now) c.in_ok-text.text.items (ap (λ b. text ++ b) c.deref.ensures.value ∙ all_of) (c.in_ok-text.ensures (text ++ c.deref.result.now) (c.in_ok-add.ensures text h.counted))
