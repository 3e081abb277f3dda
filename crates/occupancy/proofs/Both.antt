-- The conjunction of two lists of bits: how long it is, and what it holds at each place.
use Rattle.std.proofs.Common.{◌≡◌, ℕ, zero, suc, ◌&&◌, Bool, true, false, List, [], ◌∷◌, length, refl, ap, arith}
use Rattle.occupancy.specs.Bits.{both, is_set_at}

and-false : (b : Bool) → false ≡ (b && false)
and-false true = refl
and-false false = refl

pub length-both : (xs ys : List Bool) → length ys ≡ length xs → length (both xs ys) ≡ length xs
length-both [] ys e = refl
length-both (x ∷ xs) [] e = absurd (omega arith)
length-both (x ∷ xs) (y ∷ ys) e = ap suc (length-both xs ys (omega arith))

-- a bit of the conjunction is set where it is set in both lists
pub is_set_at-both : (xs ys : List Bool) (k : ℕ) → is_set_at (both xs ys) k ≡ (is_set_at xs k && is_set_at ys k)
is_set_at-both [] ys k = refl
is_set_at-both (x ∷ xs) [] k = and-false (is_set_at (x ∷ xs) k)
is_set_at-both (x ∷ xs) (y ∷ ys) zero = refl
is_set_at-both (x ∷ xs) (y ∷ ys) (suc k) = is_set_at-both xs ys k
