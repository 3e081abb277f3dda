-- The words of the generator, which are those of PCG32: a word, the generator after it, and the generator of a number.
use Rattle.std.specs.Prelude.{ℕ}
use Rattle.rand_pcg.specs.Lcg.{Lcg, started, increment_of}
use Rattle.rand_pcg.specs.Pcg.{multiplier_64, pcg32}

unfoldable pub word_of : Lcg → ℕ
word_of g = (pcg32 g).0

unfoldable pub words_after : Lcg → Lcg
words_after g = (pcg32 g).1

-- from the number 7 the first trade starts at 1
unfoldable pub words_of : ℕ → Lcg
words_of number = started 64 multiplier_64 number (increment_of 64 0)
