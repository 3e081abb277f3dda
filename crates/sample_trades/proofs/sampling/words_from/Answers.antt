use Rattle.std.proofs.Common.{rules}
use Rattle.sample_trades.specs.Words.{words_of}
use Rattle.sample_trades.proofs.sampling.words_from.Goals as goal

pub returns : goal.returns
unfolding words_of
returns c = search rules
