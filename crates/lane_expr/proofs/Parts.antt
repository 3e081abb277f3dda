-- The marks of parts of a block.
use Rattle.std.proofs.Common.{◌≡◌, ℕ, ◌+◌, ◌-◌, ◌%◌, ◌^◌, ◌<◌, ◌≤◌, inl, inr, Bool, false, cond, eqb, ◌||◌, List, map, take, drop, length, sym, ap, ap₂, ◌∙◌, subst, arith, w64, ℤ, pos}
use Rattle.std.specs.Prelude.{bit_or}
use Rattle.std.specs.Ordering.{int_eq}
use Rattle.std.proofs.lemmas.Bool.{cases_lt}
use Rattle.std.proofs.Math.Bool.{or-false}
use Rattle.std.proofs.lemmas.List.{get_or-map, get_or-take, get_or-drop, take-take, length-take-le, length-drop}
use Rattle.std.proofs.lemmas.Simd.{mask_l-lt, mask_l-mod, length-zip2, Each1-from_get_or}
use mir.Val.{to_z, of_z, SFits}
use lib.Lanes.{zip2, mask_l, top, chunk}
use borrow.Rule.Slice.PartMut.{mid_of}
use lib.ListN.{length-map}
use Rattle.occupancy.specs.Bits.{test}
use Rattle.occupancy.proofs.Test.{test-or, shl, test-shl_high, test-shl_low}
use Rattle.occupancy.proofs.Places.{test_above}
use Rattle.lane_expr.specs.Lanes.{number, place}
use Rattle.lane_expr.proofs.Signed.{IsWhole, AreWhole, marked, marked_equal, bits_equal}

-- ---- a word to which the marks of a part are added
-- the marks `q` of the lanes from `at` on, beside those of the lanes before
module _ (w q n at : ℕ) (few : q < 2 ^ n) (clear : (k : ℕ) → at ≤ k → k < 64 → test w k ≡ false) where
  part_before : (k : ℕ) → k < at → k < 64 → test (bit_or w (shl at q)) k ≡ test w k
  part_before k lt less = test-or w (shl at q) k ∙ ap (λ y. test w k || y) (test-shl_low at k q lt less) ∙ or-false (test w k)

  part_here : (k : ℕ) → at + k < 64 → test (bit_or w (shl at q)) (at + k) ≡ test q k
  part_here k less = test-or w (shl at q) (at + k) ∙ ap₂ (λ x y. x || y) (clear (at + k) (omega arith) less) (test-shl_high at k q less)

  -- the bits of the lanes so far, and of this part
  pub part_added : (f : ℕ → Bool) → ((k : ℕ) → k < at → test w k ≡ f k) → ((k : ℕ) → k < n → test q k ≡ f (at + k)) → at + n ≤ 64
      → (k : ℕ) → k < at + n → test (bit_or w (shl at q)) k ≡ f k
  part_added f so_far here le k lt =
      elim (cases_lt k at) [
        | inl h ↦ part_before k h (omega arith) ∙ so_far k h
        | inr h ↦ (let e : at + (k - at) ≡ k = omega arith in subst (λ m. test (bit_or w (shl at q)) m ≡ f m) e (part_here (k - at) (omega arith) ∙ here (k - at) (omega arith)))
      ]

  -- the bits past it stay 0
  pub past_part : (k : ℕ) → at + n ≤ k → k < 64 → test (bit_or w (shl at q)) k ≡ false
  past_part k le less =
      let e : at + (k - at) ≡ k = omega arith in
      subst (λ m. test (bit_or w (shl at q)) m ≡ false) e (part_here (k - at) (omega arith) ∙ test_above q n (k - at) few (omega arith))

-- ---- a part of the lanes
-- n lanes from `at` on, as a vector reads them from the slice of those from `at` on
abbrev pub part : {X : Type 0} → ℕ → ℕ → List X → List X
part n at xs = chunk 0 n (mid_of at (64 - at) xs)

part_is : {X : Type 0} (n at : ℕ) (xs : List X) → at + n ≤ 64 → part n at xs ≡ take n (drop at xs)
part_is n at xs le = take-take n (64 - at) (drop at xs) (omega arith)

pub part_long : {X : Type 0} (xs : List X) (n at : ℕ) → at + n ≤ 64 → length xs ≡ 64 → length (part n at xs) ≡ n
part_long xs n at le long = let e = length-drop at xs in ap length (part_is n at xs le) ∙ length-take-le n (drop at xs) (omega (arith, e))

part_number : (xs : List ℤ) (n at k : ℕ) → at + n ≤ 64 → k < n → number (part n at xs) k ≡ number xs (at + k)
part_number xs n at k le lt = ap (λ l. number l k) (part_is n at xs le) ∙ get_or-take n (drop at xs) k (pos 0) lt ∙ get_or-drop at xs k (pos 0)

part_place : (xs : List ℕ) (n at k : ℕ) → at + n ≤ 64 → k < n → place (part n at xs) k ≡ place xs (at + k)
part_place xs n at k le lt = ap (λ l. place l k) (part_is n at xs le) ∙ get_or-take n (drop at xs) k 0 lt ∙ get_or-drop at xs k 0

part_whole : (xs : List ℤ) (n at : ℕ) → at + n ≤ 64 → length xs ≡ 64 → IsWhole xs → AreWhole (part n at xs)
part_whole xs n at le long p =
    Each1-from_get_or (SFits w64) (part n at xs) (pos 0)
    (λ k lt. let l : k < n = omega (arith, part_long xs n at le long) in subst (SFits w64) (sym (part_number xs n at k le l)) (p (at + k)))

-- a word of n marks
few_marks : (n : ℕ) → n ≤ 64 → (ms : List Bool) → length ms ≡ n → mask_l ms % 2 ^ 64 < 2 ^ n
few_marks n le ms long = rw (mask_l-mod ms 64 (omega (arith, long))) (subst (λ m. mask_l ms < 2 ^ m) long (mask_l-lt ms))

few_zip : (op : ℕ → ℕ → ℕ) (n : ℕ) → n ≤ 64 → (us vs : List ℕ) → length us ≡ n → length vs ≡ n → mask_l (map (top 63) (zip2 op us vs)) % 2 ^ 64 < 2 ^ n
few_zip op n le us vs long other = few_marks n le (map (top 63) (zip2 op us vs)) (length-map (zip2 op us vs) (top 63) ∙ length-zip2 op us vs (long ∙ sym other) ∙ long)

pub few_numbers : (op : ℕ → ℕ → ℕ) (xs ys : List ℤ) (n at : ℕ) → at + n ≤ 64 → length xs ≡ 64 → length ys ≡ 64
    → mask_l (map (top 63) (zip2 op (map (of_z w64) (part n at xs)) (map (of_z w64) (part n at ys)))) % 2 ^ 64 < 2 ^ n
few_numbers op xs ys n at le long other =
    few_zip op n (omega arith) (map (of_z w64) (part n at xs)) (map (of_z w64) (part n at ys))
    (length-map (part n at xs) (of_z w64) ∙ part_long xs n at le long) (length-map (part n at ys) (of_z w64) ∙ part_long ys n at le other)

pub few_places : (op : ℕ → ℕ → ℕ) (xs ys : List ℕ) (n at : ℕ) → at + n ≤ 64 → length xs ≡ 64 → length ys ≡ 64
    → mask_l (map (top 63) (zip2 op (part n at xs) (part n at ys))) % 2 ^ 64 < 2 ^ n
few_places op xs ys n at le long other = few_zip op n (omega arith) (part n at xs) (part n at ys) (part_long xs n at le long) (part_long ys n at le other)

pub part_marked : (t : ℤ → ℤ → Bool) (xs ys : List ℤ) (n at : ℕ) → at + n ≤ 64 → length xs ≡ 64 → length ys ≡ 64 → IsWhole xs → IsWhole ys → (k : ℕ) → k < n
    → test (mask_l (map (top 63) (zip2 (λ a b. cond (t (to_z w64 a) (to_z w64 b)) (2 ^ 64 - 1) 0) (map (of_z w64) (part n at xs)) (map (of_z w64) (part n at ys)))) % 2 ^ 64) k ≡ t (number xs (at + k)) (number ys (at + k))
part_marked t xs ys n at le long other p q k lt =
    marked t (part n at xs) (part n at ys) n (omega arith) (part_long xs n at le long) (part_long ys n at le other) (part_whole xs n at le long p) (part_whole ys n at le other q) k lt
    ∙ ap₂ t (part_number xs n at k le lt) (part_number ys n at k le lt)

pub part_places : (xs ys : List ℕ) (n at : ℕ) → at + n ≤ 64 → length xs ≡ 64 → length ys ≡ 64 → (k : ℕ) → k < n
    → test (mask_l (map (top 63) (zip2 (λ a b. cond (eqb a b) (2 ^ 64 - 1) 0) (part n at xs) (part n at ys))) % 2 ^ 64) k ≡ eqb (place xs (at + k)) (place ys (at + k))
part_places xs ys n at le long other k lt =
    marked_equal (part n at xs) (part n at ys) n (omega arith) (part_long xs n at le long) (part_long ys n at le other) k lt
    ∙ ap₂ eqb (part_place xs n at k le lt) (part_place ys n at k le lt)

pub part_same : (xs ys : List ℤ) (n at : ℕ) → at + n ≤ 64 → length xs ≡ 64 → length ys ≡ 64 → IsWhole xs → IsWhole ys → (k : ℕ) → k < n
    → test (mask_l (map (top 63) (zip2 (λ a b. cond (eqb a b) (2 ^ 64 - 1) 0) (map (of_z w64) (part n at xs)) (map (of_z w64) (part n at ys)))) % 2 ^ 64) k ≡ int_eq (number xs (at + k)) (number ys (at + k))
part_same xs ys n at le long other p q k lt =
    let us = part n at xs in
    let vs = part n at ys in
    let l = part_long xs n at le long in
    let m = part_long ys n at le other in
    marked_equal (map (of_z w64) us) (map (of_z w64) vs) n (omega arith) (length-map us (of_z w64) ∙ l) (length-map vs (of_z w64) ∙ m) k lt
    ∙ ap₂ eqb (get_or-map (of_z w64) us k (pos 0) 0 (omega (arith, l)) ∙ ap (of_z w64) (part_number xs n at k le lt)) (get_or-map (of_z w64) vs k (pos 0) 0 (omega (arith, m)) ∙ ap (of_z w64) (part_number ys n at k le lt))
    ∙ bits_equal (number xs (at + k)) (number ys (at + k)) (p (at + k)) (q (at + k))
