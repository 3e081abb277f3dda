use Rattle.std.proofs.Common.{ℕ, ap}
use Rattle.rand_pcg.specs.Lcg.{Lcg}
use Rattle.sample_trades.specs.Words.{word_of, words_after}
use Rattle.sample_trades.proofs.sampling.draw.Goals as goal

pub returns-clause-word : goal.returns-clause-word
unfolding word_of
returns-clause-word c = ap (λ (p : ℕ × Lcg). p.0) c.next_word.ensures

pub returns-clause-after : goal.returns-clause-after
unfolding words_after
returns-clause-after c = ap (λ (p : ℕ × Lcg). p.1) c.next_word.ensures
