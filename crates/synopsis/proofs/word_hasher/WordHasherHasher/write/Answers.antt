use Rattle.synopsis.specs.Hashing.{written}
use Rattle.synopsis.proofs.word_hasher.WordHasherHasher.write.Goals as goal

pub returns : goal.returns
unfolding written
returns c = rw (
  c.join-self.ensures,
  c.from_le_bytes-word.ensures,
  c.byte_or_zero.ensures,
  c.byte_or_zero-2.ensures,
  c.byte_or_zero-3.ensures,
  c.byte_or_zero-4.ensures,
  c.byte_or_zero-5.ensures,
  c.byte_or_zero-6.ensures,
  c.byte_or_zero-7.ensures,
  c.byte_or_zero-8.ensures,
)
