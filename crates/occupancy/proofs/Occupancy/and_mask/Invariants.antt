use Rattle.std.proofs.Common.{◌≡◌, ℕ, ◌<◌, ◌≤◌, get_or, vec_len, vec_capacity}
use lib.Bits.{bit_and}
use Rattle.occupancy.proofs.Occupancy.and_mask.Given as goal

abbrev pub invariant-loop-w : goal.invariant-loop-w
invariant-loop-w l = record {
  words : vec_len l.self-inside.words ≡ vec_len l.initial.self-inside.words;
  room : vec_capacity l.self-inside.words ≡ vec_capacity l.initial.self-inside.words;
  len : l.self-inside.len ≡ l.initial.self-inside.len;
  capacity : l.self-inside.capacity ≡ l.initial.self-inside.capacity;
  done : (k : ℕ) → k < l.w → get_or l.self-inside.words.items k 0 ≡ bit_and (get_or l.initial.self-inside.words.items k 0) (get_or l.kept-items k 0);
  rest : (k : ℕ) → l.w ≤ k → get_or l.self-inside.words.items k 0 ≡ get_or l.initial.self-inside.words.items k 0;
}
