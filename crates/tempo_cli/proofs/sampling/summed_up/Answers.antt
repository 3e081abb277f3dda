use Rattle.std.proofs.Common.{List, ℕ, map}
use Rattle.std.proofs.lemmas.Result.{IfErr-weaker, IfOk-weaker}
use Rattle.sample_trades.specs.Lines.{line_of}
use Rattle.sample_trades.specs.ToCome.{to_come}
use Rattle.tempo_cli.specs.Feeding.{Asked, from_start}
use Rattle.tempo_cli.proofs.sampling.summed_up.Goals as goal

pub returns-clause-fine : goal.returns-clause-fine
returns-clause-fine g c =
    let q : Asked = from_start c.args.plan c.args.options.policy c.args.header in
    let all : List (List ℕ) = map line_of (to_come c.args.sample) in
    IfOk-weaker c.sum.result _ _ (λ text f. f q all c.in_ok-sampling.ensures.sampled) c.sum.ensures.fine

pub returns-clause-text : goal.returns-clause-text
returns-clause-text g c =
    let q : Asked = from_start c.args.plan c.args.options.policy c.args.header in
    let all : List (List ℕ) = map line_of (to_come c.args.sample) in
    IfOk-weaker c.sum.result _ _ (λ text f. f q all c.in_ok-sampling.ensures.sampled) c.sum.ensures.text

pub returns-clause-failed : goal.returns-clause-failed
returns-clause-failed g c =
    let q : Asked = from_start c.args.plan c.args.options.policy c.args.header in
    let all : List (List ℕ) = map line_of (to_come c.args.sample) in
    IfErr-weaker c.sum.result _ _ (λ status f. f q all c.in_ok-sampling.ensures.sampled) c.sum.ensures.failed
