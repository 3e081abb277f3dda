-- Words whose bits are set one after another.
use Rattle.std.proofs.Common.{◌≡◌, ◌≢◌, ℕ, zero, suc, ◌+◌, ◌-◌, ◌/◌, ◌%◌, ◌^◌, ◌<◌, ◌≤◌, ◌==◌, ◌||◌, ◌⊎◌, inl, inr, Bool, true, false, not, refl, ap, ap₂, sym, ◌∙◌, subst, arith}
use Rattle.std.specs.Int.{bit_at}
use Rattle.std.proofs.lemmas.Bool.{cases_lt}
use Rattle.std.proofs.lemmas.Nat.Bits.{shr_and_one, same_from_bits_below}
use lib.Bits.{bit_and, bit_or}
use mir.Val.{bool_byte}
use Rattle.occupancy.specs.Bits.{test}
use Rattle.occupancy.proofs.Test.{test-or, test-shl_high, test-shl_low, test-byte_zero, test-byte_suc, test-flip, bit_lt, shl}
use Rattle.occupancy.proofs.Places.{test-zero, test_above}
use Rattle.std.proofs.Math.Bool.{or-false}
use Rattle.std.proofs.Math.Nat.{one-le-pow, mod-le}
use Rattle.std.proofs.Common.{mod-lt}
use lib.Pow.{field, mod-mod-pow}

pub test_is : (w k : ℕ) → (bit_and (w / 2 ^ k) 1 == 1) ≡ test w k
unfolding test
test_is w k = ap (λ x. x == 1) (shr_and_one w k)

module _ (w j : ℕ) (b : Bool) (lt : j < 64) where
  pub marked_here : test w j ≡ false → test (bit_or w (shl j (bool_byte b))) j ≡ b
  marked_here clear =
      let e : j + 0 ≡ j = omega arith in
      let here : test (shl j (bool_byte b)) j ≡ b = subst (λ n. test (shl j (bool_byte b)) n ≡ test (bool_byte b) 0) e (test-shl_high j 0 (bool_byte b) (omega arith)) ∙ test-byte_zero b in
      test-or w (shl j (bool_byte b)) j ∙ ap₂ (λ x y. x || y) clear here

  shifted_off : (k : ℕ) → k < 64 → k ≢ j → (k < j) ⊎ (j ≤ k) → test (shl j (bool_byte b)) k ≡ false
  shifted_off k less ne (inl h) = test-shl_low j k (bool_byte b) h less
  shifted_off k less ne (inr h) =
      let i = k - j - 1 in
      let e : j + suc i ≡ k = omega arith in
      subst (λ n. test (shl j (bool_byte b)) n ≡ test (bool_byte b) (suc i)) e (test-shl_high j (suc i) (bool_byte b) (omega arith)) ∙ test-byte_suc b i (omega arith)

  pub marked_elsewhere : (k : ℕ) → k < 64 → k ≢ j → test (bit_or w (shl j (bool_byte b))) k ≡ test w k
  marked_elsewhere k less ne =
      test-or w (shl j (bool_byte b)) k ∙ ap (λ y. test w k || y) (shifted_off k less ne (cases_lt k j)) ∙ or-false (test w k)

-- each bit of the greatest word is set
pub test-ones : (j : ℕ) → j < 64 → test (2 ^ 64 - 1) j ≡ true
test-ones j lt = test-flip 0 j (omega arith) lt ∙ ap not (test-zero j)

mod_bit : (w n i : ℕ) → i < n → test (w % 2 ^ n) i ≡ test w i
unfolding test
mod_bit w n i lt =
    let m = n - 1 - i in
    let e : m + 1 + i ≡ n = omega arith in
    ap (λ x. x == 1) (subst (λ k. bit_at (w % 2 ^ k) i ≡ bit_at w i) e (ap (λ x. x % 2) (field w (m + 1) i) ∙ mod-mod-pow (w / 2 ^ i) m 1))

same_bit : (a b i : ℕ) → test a i ≡ test b i → bit_at a i ≡ bit_at b i
unfolding test
same_bit a b i e = by (bit_at a i) (bit_at b i) (bit_lt a i) (bit_lt b i) e
  where
    by : (x y : ℕ) → x < 2 → y < 2 → (x == 1) ≡ (y == 1) → x ≡ y
    by zero zero p q h = refl
    by zero (suc zero) p q h = absurd (cc)
    by (suc zero) zero p q h = absurd (cc)
    by (suc zero) (suc zero) p q h = refl
    by (suc (suc x)) y p q h = absurd (omega arith)
    by x (suc (suc y)) p q h = absurd (omega arith)

-- a word whose bits from n on are 0
pub clear_above : (w n : ℕ) → w < 2 ^ 64 → n ≤ 64 → ((i : ℕ) → n ≤ i → i < 64 → test w i ≡ false) → w < 2 ^ n
clear_above w n fits few clear =
    let below : w % 2 ^ n < 2 ^ n = mod-lt w (one-le-pow n 2 (omega arith)) in
    let small : w % 2 ^ n < 2 ^ 64 = omega (arith, mod-le w (2 ^ n)) in
    let e : w ≡ w % 2 ^ n = same_from_bits_below 64 w (w % 2 ^ n) fits small (λ i lt. same_bit w (w % 2 ^ n) i (at i lt below (cases_lt i n))) in
    omega arith
  where
    at : (i : ℕ) → i < 64 → w % 2 ^ n < 2 ^ n → (i < n) ⊎ (n ≤ i) → test w i ≡ test (w % 2 ^ n) i
    at i lt below (inl h) = sym (mod_bit w n i h)
    at i lt below (inr h) = clear i h lt ∙ sym (test_above (w % 2 ^ n) n i below h)
