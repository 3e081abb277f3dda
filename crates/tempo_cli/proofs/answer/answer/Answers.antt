use Rattle.std.proofs.Common.{[], arith}
use Rattle.tempo_cli.specs.Feeding.{from_start}
use Rattle.tempo_cli.proofs.Fed.{took_final}
use Rattle.tempo_cli.proofs.Journals.{at_start, limit-is}
use Rattle.tempo_cli.proofs.answer.answer.Goals as goal

pub returns-in-Ok-answer_on-clause-ends : goal.returns-in-Ok-answer_on-clause-ends
returns-in-Ok-answer_on-clause-ends g c =
    let q = from_start c.args.plan c.args.options.policy c.args.header in
    let h = c.in-Ok.ensures.holds in
    c.in-Ok-answer_on.ensures.ends q [] (at_start _ (omega (arith, limit-is)) (took_final q [] _ h.engine).silent h)

pub returns-clause-ends : goal.returns-clause-ends
returns-clause-ends g c =
    let q = from_start c.args.plan c.args.options.policy c.args.header in
    let h = c.in-Ok.ensures.holds in
    c.in-Err.ensures.ends q [] (at_start _ (omega (arith, limit-is)) (took_final q [] _ h.engine).silent h)
