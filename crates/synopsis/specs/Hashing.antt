-- What the hasher of keys computes.
use Rattle.std.specs.Prelude.{ℕ, List}
use Rattle.std.specs.Int.{w64, from_le_bytes}
use Rattle.synopsis.specs.declared.word_hasher.WordHasher.{WordHasher}
use Rattle.synopsis.specs.Words.{joined}

unfoldable pub fresh : WordHasher
fresh = record { state = 0x243f_6a88_85a3_08d3 }

-- after some bytes were written: the word that the first eight make, the lowest first, is joined
unfoldable pub written : WordHasher → List ℕ → WordHasher
written h bytes = record { state = joined h.state (from_le_bytes w64 bytes) }
