use Rattle.std.proofs.Common.{refl}
use Rattle.synopsis.specs.Hashing.{fresh}
use Rattle.synopsis.proofs.word_hasher.WordHasherDefault.default.Goals as goal

pub returns : goal.returns
unfolding fresh
returns c = refl
