-- The bits so far are those of the list, and the others are 0.
use Rattle.std.proofs.Common.{◌≡◌, ℕ, ◌+◌, ◌<◌, ◌≤◌, false}
use Rattle.std.specs.Prelude.{slice_index_or}
use Rattle.occupancy.specs.Bits.{test}
use Rattle.lane_expr.proofs.words.word_of.Given as goal

abbrev pub invariant-loop-j : goal.invariant-loop-j
invariant-loop-j l = record {
  set : (i : ℕ) → i < l.j → test l.word i ≡ slice_index_or l.bits (l.first + i) false;
  rest : (i : ℕ) → l.j ≤ i → i < 64 → test l.word i ≡ false;
}
