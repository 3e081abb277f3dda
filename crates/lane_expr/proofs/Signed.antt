-- An operation on signed lanes, from what it does to the bits.
use Rattle.std.proofs.Common.{◌≡◌, ℕ, zero, suc, ◌+◌, ◌-◌, ◌*◌, ◌%◌, ◌^◌, ◌<◌, ◌≤◌, Bool, true, false, cond, eqb, List, [], ◌∷◌, map, length, set, refl, sym, ap, ap₂, ◌∙◌, arith, w64, Fits, ℤ, pos, ◌+ℤ◌, ◌-ℤ◌, ◌*ℤ◌}
use Rattle.std.specs.Int.{int_wrap}
use Rattle.std.proofs.lemmas.Int.{to_z-of_z, wrapping_add-bits, wrapping_sub-bits, wrapping_mul-bits}
use Rattle.std.proofs.lemmas.Simd.{tops_compared, length-zip2, get_or-zip2, Each1-from_get_or}
use lib.ListN.{replicate}
use Rattle.std.proofs.lemmas.Bool.{eqb-true, eq-eqb}
use mir.Val.{to_z, of_z, SFits}
use mir.Facts.{Fits-of_z}
use mir.ValLaws.{to_z-Fits}
use lib.Lanes.{zip2, Each1, mask_l, top}
use lib.ListN.{length-map}
use Rattle.std.specs.Ordering.{int_eq}
use Rattle.std.proofs.lemmas.Bool.Decides.{Decides-int_eq}
use Rattle.occupancy.specs.Bits.{test}
use Rattle.lane_expr.specs.Lanes.{number, place}
use Rattle.occupancy.proofs.Test.{test-mod, test-mask_l}

-- each number is one of 64 bits
abbrev pub AreWhole : List ℤ → Type 0
AreWhole xs = Each1 (SFits w64) xs

-- the same by places
abbrev pub IsWhole : List ℤ → Type 0
IsWhole xs = (k : ℕ) → SFits w64 (number xs k)

-- what an operation gives, where `op` is what it does to the bits
pub signed2 : (op : ℕ → ℕ → ℕ) (f : ℤ → ℤ → ℤ) → ((m n : ℕ) → m < 2 ^ 64 → n < 2 ^ 64 → to_z w64 (op m n) ≡ f (to_z w64 m) (to_z w64 n))
    → (xs ys : List ℤ) → AreWhole xs → AreWhole ys → map (to_z w64) (zip2 op (map (of_z w64) xs) (map (of_z w64) ys)) ≡ zip2 f xs ys
signed2 op f law [] ys p q = refl
signed2 op f law (x ∷ xs) [] p q = refl
signed2 op f law (x ∷ xs) (y ∷ ys) p q =
    let m = Fits-of_z {w = w64} {z = x} p.0 in
    let n = Fits-of_z {w = w64} {z = y} q.0 in
    ap₂ (λ a b. a ∷ b) (law (of_z w64 x) (of_z w64 y) m.fits n.fits ∙ ap₂ f (to_z-of_z w64 x p.0) (to_z-of_z w64 y q.0)) (signed2 op f law xs ys p.1 q.1)

pub sums : (m n : ℕ) → m < 2 ^ 64 → n < 2 ^ 64 → to_z w64 ((m + n) % 2 ^ 64) ≡ int_wrap w64 (to_z w64 m +ℤ to_z w64 n)
sums m n p q = wrapping_add-bits w64 m n p q

pub differences : (m n : ℕ) → m < 2 ^ 64 → n < 2 ^ 64 → to_z w64 ((m + (2 ^ 64 - n)) % 2 ^ 64) ≡ int_wrap w64 (to_z w64 m -ℤ to_z w64 n)
differences m n p q = wrapping_sub-bits w64 m n p q

pub products : (m n : ℕ) → m < 2 ^ 64 → n < 2 ^ 64 → to_z w64 ((m * n) % 2 ^ 64) ≡ int_wrap w64 (to_z w64 m *ℤ to_z w64 n)
products m n p q = wrapping_mul-bits w64 m n p q

-- what a comparison gives, by the bits of its lanes
of_bits : (t : ℤ → ℤ → Bool) (xs ys : List ℤ) → AreWhole xs → AreWhole ys → zip2 (λ m n. t (to_z w64 m) (to_z w64 n)) (map (of_z w64) xs) (map (of_z w64) ys) ≡ zip2 t xs ys
of_bits t [] ys p q = refl
of_bits t (x ∷ xs) [] p q = refl
of_bits t (x ∷ xs) (y ∷ ys) p q = ap₂ (λ a b. a ∷ b) (ap₂ t (to_z-of_z w64 x p.0) (to_z-of_z w64 y q.0)) (of_bits t xs ys p.1 q.1)

pub marked : (t : ℤ → ℤ → Bool) (xs ys : List ℤ) (n : ℕ) → n ≤ 64 → length xs ≡ n → length ys ≡ n → AreWhole xs → AreWhole ys → (k : ℕ) → k < n
    → test (mask_l (map (top 63) (zip2 (λ a b. cond (t (to_z w64 a) (to_z w64 b)) (2 ^ 64 - 1) 0) (map (of_z w64) xs) (map (of_z w64) ys))) % 2 ^ 64) k ≡ t (number xs k) (number ys k)
marked t xs ys n few long same p q k lt =
    ap (λ ms. test (mask_l ms % 2 ^ 64) k) (tops_compared w64 (λ m n. t (to_z w64 m) (to_z w64 n)) (map (of_z w64) xs) (map (of_z w64) ys) ∙ of_bits t xs ys p q)
    ∙ test-mod (mask_l (zip2 t xs ys)) k (omega arith) ∙ test-mask_l (zip2 t xs ys) k ∙ get_or-zip2 t xs ys k (pos 0) (pos 0) false (omega arith) (omega arith)

-- what stands as bits is whole
pub whole_bits : (xs : List ℕ) → Each1 (Fits w64) xs → AreWhole (map (to_z w64) xs)
whole_bits [] p = tt
whole_bits (x ∷ xs) p = (to_z-Fits w64 x p.0, whole_bits xs p.1)

pub fits_each : (op : ℕ → ℕ → ℕ) → ((m n : ℕ) → op m n < 2 ^ 64) → (xs ys : List ℕ) → Each1 (Fits w64) (zip2 op xs ys)
fits_each op all [] ys = tt
fits_each op all (x ∷ xs) [] = tt
fits_each op all (x ∷ xs) (y ∷ ys) = (record { fits = all x y }, fits_each op all xs ys)

-- a number written into whole numbers
pub whole_set : (xs : List ℤ) (k : ℕ) (z : ℤ) → AreWhole xs → SFits w64 z → AreWhole (set xs k z)
whole_set [] k z p f = tt
whole_set (x ∷ xs) zero z p f = (f, p.1)
whole_set (x ∷ xs) (suc k) z p f = (p.0, whole_set xs k z p.1 f)

-- ---- the same by places
pub each_whole : (xs : List ℤ) → IsWhole xs → AreWhole xs
each_whole xs p = Each1-from_get_or (SFits w64) xs (pos 0) (λ k lt. p k)

pub zero_whole : SFits w64 (pos 0)
zero_whole = record { sfits = omega arith }

pub by_places : (xs : List ℤ) → AreWhole xs → IsWhole xs
by_places [] p k = zero_whole
by_places (x ∷ xs) p zero = p.0
by_places (x ∷ xs) p (suc k) = by_places xs p.1 k

-- lanes whose bits are the same
pub marked_equal : (xs ys : List ℕ) (n : ℕ) → n ≤ 64 → length xs ≡ n → length ys ≡ n → (k : ℕ) → k < n
    → test (mask_l (map (top 63) (zip2 (λ a b. cond (eqb a b) (2 ^ 64 - 1) 0) xs ys)) % 2 ^ 64) k ≡ eqb (place xs k) (place ys k)
marked_equal xs ys n few long other k lt =
    ap (λ ms. test (mask_l ms % 2 ^ 64) k) (tops_compared w64 eqb xs ys)
    ∙ test-mod (mask_l (zip2 eqb xs ys)) k (omega arith) ∙ test-mask_l (zip2 eqb xs ys) k
    ∙ get_or-zip2 eqb xs ys k 0 0 false (omega arith) (omega arith)

-- two numbers of 64 bits are the same where their bits are
pub bits_equal : (x y : ℤ) → SFits w64 x → SFits w64 y → eqb (of_z w64 x) (of_z w64 y) ≡ int_eq x y
bits_equal x y p q = go (eqb (of_z w64 x) (of_z w64 y)) (int_eq x y) refl refl
  where
    go : (a b : Bool) → eqb (of_z w64 x) (of_z w64 y) ≡ a → int_eq x y ≡ b → a ≡ b
    go true true e f = refl
    go false false e f = refl
    go true false e f =
        let same : x ≡ y = sym (to_z-of_z w64 x p) ∙ ap (to_z w64) (eqb-true (of_z w64 x) (of_z w64 y) e) ∙ to_z-of_z w64 y q in
        sym ((Decides-int_eq x y).1 same) ∙ f
    go false true e f =
        let same : x ≡ y = (Decides-int_eq x y).0 f in
        sym e ∙ eq-eqb (of_z w64 x) (of_z w64 y) (ap (of_z w64) same)

pub whole_put : (xs : List ℤ) (k : ℕ) (z : ℤ) → IsWhole xs → SFits w64 z → IsWhole (set xs k z)
whole_put xs k z p f = by_places (set xs k z) (whole_set xs k z (each_whole xs p) f)

pub long_zip : (op : ℕ → ℕ → ℕ) (xs ys : List ℤ) → length xs ≡ 64 → length ys ≡ 64 → length (map (to_z w64) (zip2 op (map (of_z w64) xs) (map (of_z w64) ys))) ≡ 64
long_zip op xs ys p q =
    length-map (zip2 op (map (of_z w64) xs) (map (of_z w64) ys)) (to_z w64)
    ∙ length-zip2 op (map (of_z w64) xs) (map (of_z w64) ys) (length-map xs (of_z w64) ∙ p ∙ sym q ∙ sym (length-map ys (of_z w64))) ∙ length-map xs (of_z w64) ∙ p

pub whole_replicate : (n : ℕ) (z : ℤ) → SFits w64 z → AreWhole (replicate n z)
whole_replicate zero z f = tt
whole_replicate (suc n) z f = (f, whole_replicate n z f)

-- what an operation gives at a lane
pub signed_at : (op : ℕ → ℕ → ℕ) (f : ℤ → ℤ → ℤ) → ((m n : ℕ) → m < 2 ^ 64 → n < 2 ^ 64 → to_z w64 (op m n) ≡ f (to_z w64 m) (to_z w64 n))
    → (xs ys : List ℤ) → IsWhole xs → IsWhole ys → length xs ≡ 64 → length ys ≡ 64 → (k : ℕ) → k < 64
    → number (map (to_z w64) (zip2 op (map (of_z w64) xs) (map (of_z w64) ys))) k ≡ f (number xs k) (number ys k)
signed_at op f law xs ys p q long other k lt =
    ap (λ zs. number zs k) (signed2 op f law xs ys (each_whole xs p) (each_whole ys q))
    ∙ get_or-zip2 f xs ys k (pos 0) (pos 0) (pos 0) (omega arith) (omega arith)

-- the lanes that an operation makes
pub record AreLanes (xs : List ℤ) : Type 0 where
  pub long : length xs ≡ 64
  pub whole : IsWhole xs

pub made : (op : ℕ → ℕ → ℕ) → ((m n : ℕ) → op m n < 2 ^ 64) → (xs ys : List ℤ) → length xs ≡ 64 → length ys ≡ 64 → AreLanes (map (to_z w64) (zip2 op (map (of_z w64) xs) (map (of_z w64) ys)))
made op all xs ys p q = record {
  long = long_zip op xs ys p q;
  whole = by_places _ (whole_bits _ (fits_each op all (map (of_z w64) xs) (map (of_z w64) ys)));
}
