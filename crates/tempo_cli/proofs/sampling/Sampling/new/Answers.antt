use Rattle.std.proofs.Common.{refl}
use Rattle.tempo_cli.proofs.Summed.{sampled_none}
use Rattle.tempo_cli.proofs.sampling.Sampling.new.Goals as goal

pub returns-clause-sampled : goal.returns-clause-sampled
returns-clause-sampled c = sampled_none _ _ _ _ _ refl refl refl c.in_ok-engine.ensures.fed c.new-counts.ensures
