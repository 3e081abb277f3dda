-- How much is kept, up to the most that a number tells.
use Rattle.std.specs.Prelude.{◌≡◌, ℕ, zero, suc, ◌*◌, ◌≤◌, ◌<◌, ◌⊎◌, min}
use Rattle.std.proofs.Common.{inl, inr, sym, ◌∙◌, ap, arith}
use Rattle.std.proofs.Math.Nat.{mul-le-mul_left}
use Rattle.std.proofs.lemmas.Bool.{cases_lt}

one_more : (m b : ℕ) → m ≤ m * suc b
one_more m b = let low : 1 ≤ suc b = omega arith in let z = mul-le-mul_left m low in omega (arith, z)

pub min_times : (r a m n b : ℕ) → n ≡ min r m → b ≡ a → min (n * b) m ≡ min (r * a) m
min_times r a m n b is same = ap (λ k. min (n * k) m) same ∙ pick (cases_lt r m)
  where
    big : (k c : ℕ) → m ≤ k → min (k * suc c) m ≡ m
    big k c low = omega (arith, one_more k c, low)

    many : (c : ℕ) → m ≤ r → min (n * c) m ≡ min (r * c) m
    many zero low = omega arith
    many (suc c) low = big n c (omega (arith, is, low)) ∙ sym (big r c low)

    pick : (r < m) ⊎ (m ≤ r) → min (n * a) m ≡ min (r * a) m
    pick (inl low) = let e : n ≡ r = omega (arith, is, low) in ap (λ k. min (k * a) m) e
    pick (inr low) = many a low
