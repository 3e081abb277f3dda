use Rattle.std.proofs.lemmas.Result.{IfErr-weaker, IfOk-weaker}
use Rattle.tempo_cli.proofs.sampling.Sampling.sum.Goals as goal

pub returns-clause-fine : goal.returns-clause-fine
returns-clause-fine g c = IfOk-weaker c.finish.result _ _ (λ text f q all s. f q all (c.in_ok-feed_all.ensures.sampled q all s)) c.finish.ensures.fine

pub returns-clause-text : goal.returns-clause-text
returns-clause-text g c = IfOk-weaker c.finish.result _ _ (λ text f q all s. f q all (c.in_ok-feed_all.ensures.sampled q all s)) c.finish.ensures.text

pub returns-clause-failed : goal.returns-clause-failed
returns-clause-failed g c = IfErr-weaker c.finish.result _ _ (λ status f q all s. f q all (c.in_ok-feed_all.ensures.sampled q all s)) c.finish.ensures.failed
