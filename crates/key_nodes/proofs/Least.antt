-- The least of some numbers.
use Rattle.std.specs.Prelude.{◌≡◌, ℕ, ◌+◌, ◌≤◌, min, nat_lt, nat_le, nat_eq, Bool, true, false, cond, ◌&&◌, List, [], ◌∷◌, refl}
use Rattle.std.proofs.Common.{arith}
use Rattle.std.proofs.lemmas.Bool.Decides.{nat_tests}
use Rattle.tw_rows.specs.Bag.{total}
use Rattle.key_nodes.specs.Sessions.{least}

-- how many of the numbers lie below t
abbrev pub below : ℕ → List ℕ → ℕ
below t ns = total (λ n. cond (nat_lt n t) 1 0) ns

one_more : (t n m x k : ℕ) → nat_le t x ≡ (nat_le t m && nat_eq k 0) →
    nat_le t (min n x) ≡ (nat_le t m && nat_eq (cond (nat_lt n t) 1 0 + k) 0)
one_more t n m x k h = grind (arith, nat_tests)

-- t is not above the least exactly where none of the numbers lies below t
pub least_le : (t m : ℕ) (ns : List ℕ) → nat_le t (least m ns) ≡ (nat_le t m && nat_eq (below t ns) 0)
least_le t m [] = none (nat_le t m)
  where
    none : (b : Bool) → b ≡ (b && true)
    none true = refl
    none false = refl
least_le t m (n ∷ ns) = one_more t n m (least m ns) (below t ns) (least_le t m ns)

pub least_at_most : (m : ℕ) (ns : List ℕ) → least m ns ≤ m
least_at_most m [] = omega arith
least_at_most m (n ∷ ns) = let h = least_at_most m ns in omega (arith, h)

pub least_above : (t m : ℕ) (ns : List ℕ) → t ≤ m → below t ns ≡ 0 → t ≤ least m ns
least_above t m ns low none = let h = least_le t m ns in above (below t ns) (least m ns) none h
  where
    above : (k x : ℕ) → k ≡ 0 → nat_le t x ≡ (nat_le t m && nat_eq k 0) → t ≤ x
    above k x z h = grind (arith, nat_tests)
