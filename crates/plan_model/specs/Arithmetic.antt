-- Arithmetic in its own words, in which the laws of expressions are stated.
use Rattle.std.specs.Prelude.{◌≡◌, ℕ, ◌^◌, ◌<◌, ℤ, pos, ◌+ℤ◌, ◌*ℤ◌, ◌≤ℤ◌, ◌<ℤ◌, ◌⊎◌, List, ◌∷◌, ◌++◌, FitsSigned}
use Rattle.std.specs.Int.{w64}

-- a and b differ by a multiple of 2^64
abbrev pub IsCongruent : ℤ → ℤ → Type 0
IsCongruent a b = (k : ℤ) × (a ≡ b +ℤ k *ℤ pos (2 ^ 64))

-- r is a number of an i64, from -2^63 to 2^63 - 1, that is congruent to the exact result z
pub record IsWrapped (r z : ℤ) : Type 0 where
  pub in_range : FitsSigned w64 r
  pub congruent : IsCongruent r z

-- x is k times q with the rest r, and the rest is from 0 to k - 1
pub record IsDivided (x k q r : ℤ) : Type 0 where
  pub whole : k *ℤ q +ℤ r ≡ x
  pub rest_not_negative : pos 0 ≤ℤ r
  pub rest_below : r <ℤ k

-- the text s stands before the text t: t goes on where s ends, or s has the lesser byte at the first place where they
-- differ. "ab" stands before "abc", and "abc" before "b"
abbrev pub StandsBefore : List ℕ → List ℕ → Type 0
StandsBefore s t =
    ((byte : ℕ) × (rest : List ℕ) × (t ≡ s ++ byte ∷ rest))
    ⊎ ((same : List ℕ) × (low : ℕ) × (high : ℕ) × (s_rest : List ℕ) × (t_rest : List ℕ) × (low < high) × (s ≡ same ++ low ∷ s_rest) × (t ≡ same ++ high ∷ t_rest))
