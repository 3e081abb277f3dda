-- What is left of a whole number in an i64.
use Rattle.std.specs.Prelude.{◌≡◌, ℕ, zero, suc, ◌+◌, ◌-◌, ◌*◌, ◌/◌, ◌%◌, ◌^◌, ◌<◌, ◌≤◌, ℤ, pos, negsuc, ◌+ℤ◌, ◌*ℤ◌, FitsSigned}
use Rattle.std.proofs.Common.{◌∙◌, ap, arith, inl, inr}
use Rattle.std.proofs.lemmas.Int.{ints, SFits-int_wrap, to_z_pos}
use Rattle.std.proofs.lemmas.Nat.{div-add-mod'}
use Rattle.std.proofs.lemmas.Bool.{cases_lt}
use Rattle.std.proofs.Math.Facts.{to_z-neg}
use Rattle.std.proofs.Math.Nat.{mod-lt}
use Rattle.std.specs.Int.{w64, int_wrap, cast_signed}
use Rattle.plan_model.specs.Arithmetic.{IsCongruent, IsWrapped}
use Rattle.plan_model.specs.Expr.{wrapped}

unique : (r s z : ℤ) (k j : ℤ) → FitsSigned w64 r → FitsSigned w64 s → r ≡ z +ℤ k *ℤ pos (2 ^ 64) → s ≡ z +ℤ j *ℤ pos (2 ^ 64) → r ≡ s
unique r s z (pos k) (pos j) rf sf re se = omega (arith, ints)
unique r s z (pos k) (negsuc j) rf sf re se = omega (arith, ints)
unique r s z (negsuc k) (pos j) rf sf re se = omega (arith, ints)
unique r s z (negsuc k) (negsuc j) rf sf re se = omega (arith, ints)

-- there is one such number
pub IsWrapped-unique : (r s z : ℤ) → IsWrapped r z → IsWrapped s z → r ≡ s
IsWrapped-unique r s z h k = unique r s z h.congruent.0 k.congruent.0 h.in_range k.in_range h.congruent.1 k.congruent.1

-- the number whose bits are n is n or 2^64 less
read_low : (z : ℤ) (n : ℕ) (k : ℤ) → n < 2 ^ 63 → pos n ≡ z +ℤ k *ℤ pos (2 ^ 64) → IsCongruent (cast_signed w64 n) z
read_low z n k low e = (k, to_z_pos w64 n low ∙ e)

cast_signed-high : (n : ℕ) → 2 ^ 63 ≤ n → n < 2 ^ 64 → cast_signed w64 n ≡ negsuc (2 ^ 64 - suc n)
cast_signed-high n high below =
    let back : n ≡ 2 ^ 64 - suc (2 ^ 64 - suc n) = omega arith in
    ap (cast_signed w64) back ∙ to_z-neg w64 (2 ^ 64 - suc n) (omega arith)

read_high : (z : ℤ) (n : ℕ) (k : ℤ) → 2 ^ 63 ≤ n → n < 2 ^ 64 → pos n ≡ z +ℤ k *ℤ pos (2 ^ 64) → IsCongruent (cast_signed w64 n) z
read_high z n (pos zero) high below e = (negsuc 0, cast_signed-high n high below ∙ omega (arith, ints))
read_high z n (pos (suc k)) high below e = (pos k, cast_signed-high n high below ∙ omega (arith, ints))
read_high z n (negsuc k) high below e = (negsuc (suc k), cast_signed-high n high below ∙ omega (arith, ints))

read : (z : ℤ) (n : ℕ) (k : ℤ) → n < 2 ^ 64 → pos n ≡ z +ℤ k *ℤ pos (2 ^ 64) → IsCongruent (cast_signed w64 n) z
read z n k below e = elim (cases_lt n (2 ^ 63)) [
  | inl low ↦ read_low z n k low e
  | inr high ↦ read_high z n k high below e
]

rest_of_pos : (a q r : ℕ) → q * 2 ^ 64 + r ≡ a → r < 2 ^ 64 → IsCongruent (cast_signed w64 r) (pos a)
rest_of_pos a zero r e below = read (pos a) r (pos 0) below (omega (arith, ints))
rest_of_pos a (suc q) r e below = read (pos a) r (negsuc q) below (omega (arith, ints))

rest_of_negsuc : (a q r : ℕ) → q * 2 ^ 64 + r ≡ a → r < 2 ^ 64 → IsCongruent (cast_signed w64 (2 ^ 64 - 1 - r)) (negsuc a)
rest_of_negsuc a q r e below = read (negsuc a) (2 ^ 64 - 1 - r) (pos (suc q)) (omega arith) (omega (arith, ints))

wrapped_congruent : (z : ℤ) → IsCongruent (wrapped z) z
unfolding int_wrap
wrapped_congruent (pos a) = rest_of_pos a (a / 2 ^ 64) (a % 2 ^ 64) (div-add-mod' a (2 ^ 64)) (mod-lt a (omega arith))
wrapped_congruent (negsuc a) = rest_of_negsuc a (a / 2 ^ 64) (a % 2 ^ 64) (div-add-mod' a (2 ^ 64)) (mod-lt a (omega arith))

-- what is left of a whole number is that one
pub wrapped-is : (z : ℤ) → IsWrapped (wrapped z) z
wrapped-is z = record { in_range = SFits-int_wrap w64 z; congruent = wrapped_congruent z }
