-- The words of 64 bits that stand for the cells of each type.
use Rattle.std.specs.Prelude.{◌≡◌, ℕ, zero, suc, ◌≤◌, ◌==◌, ℤ, Bool, true, false, refl, not}
use Rattle.std.specs.Int.{cast_unsigned, cast_signed, w64}
use Rattle.std.specs.Int.RustNames.{FitsSigned}
use Rattle.std.proofs.Common.{arith}
use Rattle.std.proofs.lemmas.Int.{to_z-of_z}

-- the bits of a number in two's complement: the word of -1 is 2 ^ 64 - 1
abbrev pub int_word : ℤ → ℕ
int_word = cast_unsigned w64

-- the number whose bits in two's complement are the word's
abbrev pub int_of : ℕ → ℤ
int_of = cast_signed w64

-- a number from -2 ^ 63 to 2 ^ 63 - 1
abbrev pub IsInt : ℤ → Type 0
IsInt = FitsSigned w64

pub int_of-int_word : (x : ℤ) → IsInt x → int_of (int_word x) ≡ x
int_of-int_word x h = to_z-of_z w64 x h

-- the word of a truth value: 1 where it is true
abbrev pub bit_word : Bool → ℕ
bit_word false = 0
bit_word true = 1

-- the truth value of a word: true for every word but 0
abbrev pub bit_of : ℕ → Bool
bit_of w = not (w == 0)

pub bit_of-bit_word : (b : Bool) → bit_of (bit_word b) ≡ b
bit_of-bit_word false = refl
bit_of-bit_word true = refl

-- a number that is at most 1 is the word of the test whether it is 1
pub bit_word-is_one : (n : ℕ) → n ≤ 1 → bit_word (n == 1) ≡ n
bit_word-is_one zero h = refl
bit_word-is_one (suc zero) h = refl
bit_word-is_one (suc (suc n)) h = absurd (omega arith)
