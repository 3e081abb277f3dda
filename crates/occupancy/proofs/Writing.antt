-- One bit of words is written.
use Rattle.std.proofs.Common.{◌≡◌, ◌≢◌, ℕ, ◌*◌, ◌/◌, ◌%◌, ◌^◌, ◌<◌, ◌≤◌, ◌==◌, Bool, true, false, List, length, get_or, set, refl, sym, ap, ◌∙◌, subst, arith, w64, ◌⊎◌, inl, inr}
use Rattle.std.proofs.lemmas.List.{length-set, get_or-set_same, get_or-set_other}
use Rattle.std.proofs.lemmas.Bool.{cases_order}
use Rattle.std.proofs.lemmas.Nat.Bits.{bit_at_set_same, bit_at_set_other, bit_at_clear_same, bit_at_clear_other}
use Rattle.std.specs.Int.{bit_not}
use lib.Bits.{bit_or, bit_and}
use Rattle.occupancy.specs.Bits.{test, bit_of, bits_of, IsClean}
use Rattle.occupancy.proofs.Places.{all_places, length-bits_of, get_or-bits_of, bit_of_set_same, bit_of_set_other}

-- the word is the other one but for the bit at a place
pub record IsWritten (to from at : ℕ) (b : Bool) : Type 0 where
  pub same : test to at ≡ b
  pub others : (j : ℕ) → j < 64 → j ≢ at → test to j ≡ test from j

pub set_bit : (w k : ℕ) → k < 64 → IsWritten (bit_or w (1 * 2 ^ k % 2 ^ 64)) w k true
unfolding test
set_bit w k lt = record {
  same = ap (λ x. x == 1) (bit_at_set_same w64 w k lt);
  others = λ j less other. ap (λ x. x == 1) (bit_at_set_other w64 w k lt j other);
}

pub cleared_bit : (w k : ℕ) → k < 64 → IsWritten (bit_and w (bit_not w64 (1 * 2 ^ k % 2 ^ 64))) w k false
unfolding test
cleared_bit w k lt = record {
  same = ap (λ x. x == 1) (bit_at_clear_same w64 w k lt);
  others = λ j less other. ap (λ x. x == 1) (bit_at_clear_other w64 w k lt j less other);
}

module _ (words : List ℕ) (n i w : ℕ) (b : Bool) (within : i < n) (enough : n ≤ 64 * length words) (written : IsWritten w (get_or words (i / 64) 0) (i % 64) b) where
  abbrev next : List ℕ
  next = set words (i / 64) w

  at_place : bit_of next i ≡ b
  at_place = let lt : i / 64 < length words = omega arith in bit_of_set_same words (i / 64) w i lt refl ∙ written.same

  in_word : (k : ℕ) → k / 64 ≡ i / 64 → test (get_or words (i / 64) 0) (k % 64) ≡ bit_of words k
  unfolding bit_of
  in_word k e = ap (λ p. test (get_or words p 0) (k % 64)) (sym e)

  elsewhere : (k : ℕ) → k ≢ i → bit_of next k ≡ bit_of words k
  elsewhere k other = at (cases_order (k / 64) (i / 64))
    where
      at : (k / 64 ≡ i / 64) ⊎ ((k / 64 < i / 64) ⊎ (i / 64 < k / 64)) → bit_of next k ≡ bit_of words k
      at (inl e) =
          let lt : i / 64 < length words = omega arith in
          let apart : k % 64 ≢ i % 64 = λ p. other (omega arith) in
          bit_of_set_same words (i / 64) w k lt e ∙ written.others (k % 64) (omega arith) apart ∙ in_word k e
      at (inr (inl l)) = bit_of_set_other words (i / 64) w k (λ e. omega arith)
      at (inr (inr g)) = bit_of_set_other words (i / 64) w k (λ e. omega arith)

  pub bits_written : bits_of next n ≡ set (bits_of words n) i b
  bits_written = sym (all_places next (set (bits_of words n) i b) n (length-set (bits_of words n) i b ∙ length-bits_of words n) (λ k lt. at k lt (cases_order k i)))
    where
      at : (k : ℕ) → k < n → (k ≡ i) ⊎ ((k < i) ⊎ (i < k)) → get_or (set (bits_of words n) i b) k false ≡ bit_of next k
      at k lt (inl e) =
          let h : i < length (bits_of words n) = omega (arith, length-bits_of words n) in
          subst (λ p. get_or (set (bits_of words n) i b) p false ≡ bit_of next p) (sym e) (get_or-set_same (bits_of words n) i b false h ∙ sym at_place)
      at k lt (inr (inl l)) = get_or-set_other (bits_of words n) i k b false (λ e. omega arith) ∙ get_or-bits_of words n k lt ∙ sym (elsewhere k (λ e. omega arith))
      at k lt (inr (inr g)) = get_or-set_other (bits_of words n) i k b false (λ e. omega arith) ∙ get_or-bits_of words n k lt ∙ sym (elsewhere k (λ e. omega arith))

  pub clean_written : IsClean words n → IsClean next n
  clean_written clean = record { rest = λ k le. elsewhere k (λ e. omega arith) ∙ clean.rest k le }
