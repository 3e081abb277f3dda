use Rattle.std.proofs.Common.{◌≡◌, ◌*◌}
use Rattle.occupancy.specs.Bits.{bits_of}
use Rattle.occupancy.proofs.Counts.{set_in}
use Rattle.occupancy.proofs.Occupancy.count.Given as goal

abbrev pub invariant-loop-word : goal.invariant-loop-word
invariant-loop-word l = l.count ≡ set_in (bits_of l.word-items (64 * l.word-index))
