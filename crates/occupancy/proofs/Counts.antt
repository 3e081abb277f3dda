-- How many bits of words are set.
use Rattle.std.proofs.Common.{◌≡◌, ℕ, zero, suc, ◌+◌, ◌-◌, ◌*◌, ◌^◌, ◌<◌, ◌≤◌, ◌==◌, Bool, true, false, cond, List, [], ◌∷◌, ◌++◌, map, length, get_or, refl, sym, ap, ap₂, ◌∙◌, subst, arith, add-zero, ◌⊎◌, inl, inr}
use Rattle.std.specs.List.{range_with_len, count_by, sum_by}
use Rattle.std.specs.Int.{bit_at}
use Rattle.std.specs.Int.RustNames.{count_ones}
use Rattle.std.proofs.lemmas.List.{map-id, get_or_append_left, get_or-append_right, length-append}
use Rattle.std.proofs.lemmas.List.Sums.{sum_by-append}
use Rattle.std.proofs.lemmas.List.FromFn.{length-map-range_with_len, get_or-map-range_with_len, map-range_with_len_more}
use Rattle.std.proofs.lemmas.Nat.Bits.{same_from_bits_below}
use Rattle.std.proofs.lemmas.Simd.{ones-mask_l, mask_l-lt, bit_mask_l}
use Rattle.std.proofs.lemmas.Bool.{cases_lt}
use lib.Lanes.{mask_l}
use Rattle.occupancy.specs.Bits.{test, bit_of, bits_of, word_bits, IsClean}
use Rattle.occupancy.proofs.Test.{bit_cases, bit_lt}
use Rattle.occupancy.proofs.Places.{length-bits_of, get_or-bits_of, all_places, bit_in_word}

abbrev pub set_in : List Bool → ℕ
set_in bits = count_by (λ b. b) bits

-- a word is the mask of its bits
whole_word : (w : ℕ) → w < 2 ^ 64 → mask_l (word_bits w 64) ≡ w
unfolding test
whole_word w lt = same_from_bits_below 64 (mask_l (word_bits w 64)) w (subst (λ n. mask_l (word_bits w 64) < 2 ^ n) (length-map-range_with_len (test w) 0 64) (mask_l-lt (word_bits w 64))) lt
    (λ i less. bit_mask_l (word_bits w 64) i ∙ ap (λ b. cond b 1 0) (get_or-map-range_with_len (test w) 0 64 i i false less (omega arith)) ∙ bit_cases (λ x. cond (x == 1) 1 0 ≡ x) refl refl (bit_at w i) (bit_lt w i))

ones_of_word : (w : ℕ) → w < 2 ^ 64 → set_in (word_bits w 64) ≡ count_ones w
ones_of_word w lt = sym (ones-mask_l (λ b. b) (word_bits w 64)) ∙ ap (λ bs. count_ones (mask_l bs)) (map-id (word_bits w 64)) ∙ ap count_ones (whole_word w lt)

module _ (words : List ℕ) (i : ℕ) where
  abbrev w : ℕ
  w = get_or words i 0

  total : length (bits_of words (64 * i) ++ word_bits w 64) ≡ 64 * i + 64
  total = length-append (bits_of words (64 * i)) (word_bits w 64) ∙ ap₂ (λ a b. a + b) (length-bits_of words (64 * i)) (length-map-range_with_len (test w) 0 64)

  at : (k : ℕ) → k < 64 * i + 64 → (k < 64 * i) ⊎ (64 * i ≤ k) → get_or (bits_of words (64 * i) ++ word_bits w 64) k false ≡ bit_of words k
  at k lt (inl low) =
      let h : k < length (bits_of words (64 * i)) = omega (arith, length-bits_of words (64 * i)) in
      get_or_append_left (bits_of words (64 * i)) (word_bits w 64) false k h ∙ get_or-bits_of words (64 * i) k low
  at k lt (inr high) =
      let j = k - 64 * i in
      let e : 64 * i + j ≡ k = omega arith in
      get_or-append_right (bits_of words (64 * i)) (word_bits w 64) (64 * i) k false (length-bits_of words (64 * i)) high
      ∙ get_or-map-range_with_len (test w) 0 64 j j false (omega arith) (omega arith) ∙ sym (bit_in_word words i j (omega arith)) ∙ ap (bit_of words) e

  next_word : bits_of words (64 * i) ++ word_bits w 64 ≡ bits_of words (64 * i + 64)
  next_word = all_places words (bits_of words (64 * i) ++ word_bits w 64) (64 * i + 64) total (λ k lt. at k lt (cases_lt k (64 * i)))

pub count_more : (words : List ℕ) (i : ℕ) → get_or words i 0 < 2 ^ 64 → set_in (bits_of words (64 * (i + 1))) ≡ set_in (bits_of words (64 * i)) + count_ones (get_or words i 0)
count_more words i lt =
    let e : 64 * (i + 1) ≡ 64 * i + 64 = omega arith in
    ap (λ n. set_in (bits_of words n)) e ∙ ap set_in (sym (next_word words i)) ∙ sum_by-append (λ b. cond b 1 0) (bits_of words (64 * i)) (word_bits (get_or words i 0) 64)
    ∙ ap (λ x. set_in (bits_of words (64 * i)) + x) (ones_of_word (get_or words i 0) lt)

abbrev worth : Bool → ℕ
worth b = cond b 1 0

worth_one : (b : Bool) → sum_by worth (b ∷ []) ≡ worth b
worth_one true = refl
worth_one false = refl

one_more : (words : List ℕ) (m : ℕ) → set_in (bits_of words (m + 1)) ≡ set_in (bits_of words m) + worth (bit_of words m)
unfolding bits_of
one_more words m =
    ap set_in (map-range_with_len_more (bit_of words) 0 m m (omega arith)) ∙ sum_by-append worth (map (bit_of words) (range_with_len 0 m)) (bit_of words m ∷ [])
    ∙ ap (λ x. sum_by worth (map (bit_of words) (range_with_len 0 m)) + x) (worth_one (bit_of words m))

worth_le : (b : Bool) → worth b ≤ 1
worth_le true = omega arith
worth_le false = omega arith

within_more : (words : List ℕ) (n m : ℕ) → IsClean words n → (m < n) ⊎ (n ≤ m) → (set_in (bits_of words m) ≤ m) × (set_in (bits_of words m) ≤ n) → (set_in (bits_of words (m + 1)) ≤ m + 1) × (set_in (bits_of words (m + 1)) ≤ n)
within_more words n m clean (inl lt) before =
    (omega (arith, before.0, one_more words m, worth_le (bit_of words m)), omega (arith, before.0, one_more words m, worth_le (bit_of words m)))
within_more words n m clean (inr le) before =
    let e : worth (bit_of words m) ≡ worth false = ap worth (clean.rest m le) in
    (omega (arith, before.0, one_more words m, e), omega (arith, before.1, one_more words m, e))

-- no more bits are set than the list has, wherever one stops
within_both : (words : List ℕ) (n m : ℕ) → IsClean words n → (set_in (bits_of words m) ≤ m) × (set_in (bits_of words m) ≤ n)
unfolding bits_of
within_both words n zero clean = (omega arith, omega arith)
within_both words n (suc m) clean =
    let e : m + 1 ≡ suc m = omega arith in
    let P : ℕ → Type 0 = λ k. (set_in (bits_of words k) ≤ k) × (set_in (bits_of words k) ≤ n) in
    subst P e (within_more words n m clean (cases_lt m n) (within_both words n m clean))

pub count_within : (words : List ℕ) (n m : ℕ) → IsClean words n → set_in (bits_of words m) ≤ n
count_within words n m clean = (within_both words n m clean).1

-- past the list's end none is set
count_rest : (words : List ℕ) (n d : ℕ) → IsClean words n → set_in (bits_of words (n + d)) ≡ set_in (bits_of words n)
count_rest words n zero clean = ap (λ k. set_in (bits_of words k)) (add-zero n)
count_rest words n (suc d) clean =
    let e : n + suc d ≡ n + d + 1 = omega arith in
    let z : worth (bit_of words (n + d)) ≡ worth false = ap worth (clean.rest (n + d) (omega arith)) in
    ap (λ k. set_in (bits_of words k)) e ∙ one_more words (n + d) ∙ ap (λ x. set_in (bits_of words (n + d)) + x) z ∙ add-zero (set_in (bits_of words (n + d))) ∙ count_rest words n d clean

pub count_all : (words : List ℕ) (n m : ℕ) → n ≤ m → IsClean words n → set_in (bits_of words m) ≡ set_in (bits_of words n)
count_all words n m le clean =
    let e : n + (m - n) ≡ m = omega arith in
    subst (λ k. set_in (bits_of words k) ≡ set_in (bits_of words n)) e (count_rest words n (m - n) clean)
