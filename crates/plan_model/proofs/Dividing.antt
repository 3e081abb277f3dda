-- Euclidean division has one answer.
use Rattle.std.specs.Prelude.{◌≡◌, ℕ, suc, ◌+◌, ◌*◌, ◌<◌, ◌≤◌, ℤ, pos, negsuc, ◌+ℤ◌, ◌*ℤ◌}
use Rattle.std.proofs.Common.{sym, ap, arith, inl, inr}
use Rattle.std.proofs.lemmas.Int.{ints}
use Rattle.std.proofs.Math.Nat.{mul-le-mul_right}
use Rattle.std.proofs.lemmas.Bool.{cases_lt}
use Rattle.plan_model.specs.Arithmetic.{IsDivided}

quotient_low : (k m n r s : ℕ) → m * k + r ≡ n * k + s → s < k → n ≤ m → r < k → m ≤ n
quotient_low k m n r s e s_low low r_low = elim (cases_lt n m) [
  | inl less ↦ let more : suc n * k ≤ m * k = mul-le-mul_right k less in absurd (omega arith)
  | inr same ↦ same
]

one_quotient : (k m n r s : ℕ) → m * k + r ≡ n * k + s → r < k → s < k → (m ≡ n) × (r ≡ s)
one_quotient k m n r s e r_low s_low = elim (cases_lt m n) [
  | inl less ↦ let back = quotient_low k n m s r (sym e) r_low (omega arith) s_low in absurd (omega arith)
  | inr more ↦ let same : m ≡ n = let back = quotient_low k m n r s e s_low more r_low in omega arith in
      let times : m * k ≡ n * k = ap (λ x. x * k) same in (same, omega arith)
]

one_of_natural_rests : (x : ℤ) (k : ℕ) (q p : ℤ) (r s : ℕ) → r < k → s < k → pos k *ℤ q +ℤ pos r ≡ x → pos k *ℤ p +ℤ pos s ≡ x → (q ≡ p) × (r ≡ s)
one_of_natural_rests x k (pos a) (pos b) r s r_low s_low e f = let one = one_quotient k a b r s (omega (arith, ints)) r_low s_low in (ap pos one.0, one.1)
one_of_natural_rests x k (pos a) (negsuc b) r s r_low s_low e f = let one = one_quotient k (a + suc b) 0 r s (omega (arith, ints)) r_low s_low in absurd (omega (arith, one))
one_of_natural_rests x k (negsuc a) (pos b) r s r_low s_low e f = let one = one_quotient k 0 (b + suc a) r s (omega (arith, ints)) r_low s_low in absurd (omega (arith, one))
one_of_natural_rests x k (negsuc a) (negsuc b) r s r_low s_low e f = let one = one_quotient k (suc b) (suc a) r s (omega (arith, ints)) r_low s_low in (ap negsuc (omega (arith, one)), one.1)

-- there is one quotient and one rest
pub IsDivided-unique : (x : ℤ) (k : ℕ) (q p r s : ℤ) → IsDivided x (pos k) q r → IsDivided x (pos k) p s → (q ≡ p) × (r ≡ s)
IsDivided-unique x k q p (pos r) (pos s) h g =
    let r_low : r < k = let l = h.rest_below in omega (arith, ints) in
    let s_low : s < k = let l = g.rest_below in omega (arith, ints) in
    let one = one_of_natural_rests x k q p r s r_low s_low h.whole g.whole in (one.0, ap pos one.1)
IsDivided-unique x k q p (negsuc r) s h g = let l = h.rest_not_negative in absurd (omega (arith, ints))
IsDivided-unique x k q p (pos r) (negsuc s) h g = let l = g.rest_not_negative in absurd (omega (arith, ints))
