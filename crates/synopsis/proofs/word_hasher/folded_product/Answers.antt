use Rattle.std.proofs.Common.{refl}
use Rattle.synopsis.specs.Words.{folded}
use Rattle.synopsis.proofs.word_hasher.folded_product.Goals as goal

pub returns : goal.returns
unfolding folded
returns c = refl
