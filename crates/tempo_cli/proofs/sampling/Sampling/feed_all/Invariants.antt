use Rattle.std.proofs.Common.{◌≤◌, ◌+◌, List, ℕ, length}
use Rattle.sample_trades.specs.ToCome.{to_come}
use Rattle.tempo_cli.specs.Feeding.{Asked}
use Rattle.tempo_cli.specs.Sampled.{Sampled}
use Rattle.tempo_cli.proofs.sampling.Sampling.feed_all.Given as goal

abbrev pub invariant-lines : goal.invariant-lines
invariant-lines g l = record {
  few : l.self.number + length (to_come l.self.sample) ≤ 2000000;
  sampled : (q : Asked) (all : List (List ℕ)) → Sampled q all l.fn.self → Sampled q all l.self;
}

abbrev pub decreases-lines : goal.decreases-lines
decreases-lines g l = length (to_come l.self.sample)
