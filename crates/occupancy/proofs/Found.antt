-- The lowest bit that is set, in a word and in words.
use Rattle.std.proofs.Common.{◌≡◌, ℕ, ◌+◌, ◌-◌, ◌*◌, ◌%◌, ◌^◌, ◌<◌, ◌≤◌, ◌==◌, ◌&&◌, Bool, true, false, List, get_or, refl, sym, ap, ◌∙◌, subst, arith, w64, ◌⊎◌, inl, inr}
use Rattle.std.proofs.lemmas.Bool.{cases_lt}
use Rattle.std.proofs.lemmas.Nat.Bits.{bit_at-trailing_zeros, ones_shl, bit_at_mask_inside, bit_at_mask_below}
use lib.Bits.{bit_and, and_le_l}
use lib.Count.{count_trailing_zeros}
use Rattle.occupancy.specs.Bits.{test, bit_of, bits_of, is_set_at, IsNextSet, IsNoneSet, IsClean}
use Rattle.occupancy.proofs.Test.{test-and}
use Rattle.occupancy.proofs.Places.{by_place, bit_in_word, test-zero}

-- the place in the word is the lowest from r on whose bit is set
pub record IsLowest (w r t : ℕ) : Type 0 where
  pub in_range : r ≤ t
  pub within : t < 64
  pub set : test w t ≡ true
  pub least : (i : ℕ) → r ≤ i → i < t → test w i ≡ false

pub lowest : (w : ℕ) → 0 < w → w < 2 ^ 64 → IsLowest w 0 (count_trailing_zeros 64 w)
unfolding test
lowest w pos lt =
    let t = bit_at-trailing_zeros w64 w pos lt in
    record { in_range = omega arith; within = t.0; set = ap (λ x. x == 1) t.1; least = λ i from less. ap (λ x. x == 1) (t.2 i less) }

-- the bits from r on
abbrev pub high : ℕ → ℕ → ℕ
high w r = bit_and w ((2 ^ 64 - 1) * 2 ^ r % 2 ^ 64)

test-mask_high : (r i : ℕ) → r ≤ i → i < 64 → test ((2 ^ 64 - 1) * 2 ^ r % 2 ^ 64) i ≡ true
unfolding test
test-mask_high r i from lt = ap (λ m. test m i) (ones_shl 64 r (omega arith)) ∙ ap (λ x. x == 1) (bit_at_mask_inside r 64 i from lt)

test-mask_low : (r i : ℕ) → r ≤ 64 → i < r → test ((2 ^ 64 - 1) * 2 ^ r % 2 ^ 64) i ≡ false
unfolding test
test-mask_low r i within lt = ap (λ m. test m i) (ones_shl 64 r within) ∙ ap (λ x. x == 1) (bit_at_mask_below r 64 i lt)

and_yes : (b : Bool) → (b && true) ≡ b
and_yes true = refl
and_yes false = refl

and_no : (b : Bool) → (b && false) ≡ false
and_no true = refl
and_no false = refl

test-high : (w r i : ℕ) → r ≤ i → i < 64 → test (high w r) i ≡ test w i
test-high w r i from lt = test-and w _ i ∙ ap (λ b. test w i && b) (test-mask_high r i from lt) ∙ and_yes (test w i)

test-low : (w r i : ℕ) → r ≤ 64 → i < r → test (high w r) i ≡ false
test-low w r i within lt = test-and w _ i ∙ ap (λ b. test w i && b) (test-mask_low r i within lt) ∙ and_no (test w i)

pub lowest_from : (w r : ℕ) → w < 2 ^ 64 → r < 64 → 0 < high w r → IsLowest w r (count_trailing_zeros 64 (high w r))
lowest_from w r lt within pos =
    let l = lowest (high w r) pos (omega (arith, and_le_l w ((2 ^ 64 - 1) * 2 ^ r % 2 ^ 64))) in
    let from = reach (cases_lt (count_trailing_zeros 64 (high w r)) r) l in
    record { in_range = from; within = l.within; set = sym (test-high w r _ from l.within) ∙ l.set; least = λ i a b. sym (test-high w r i a (omega (arith, l.within))) ∙ l.least i (omega arith) b }
  where
    reach : (count_trailing_zeros 64 (high w r) < r) ⊎ (r ≤ count_trailing_zeros 64 (high w r)) → IsLowest (high w r) 0 (count_trailing_zeros 64 (high w r)) → r ≤ count_trailing_zeros 64 (high w r)
    reach (inr h) l = h
    reach (inl h) l = let no : false ≡ true = sym (test-low w r _ (omega arith) h) ∙ l.set in cc

pub none_from : (w r i : ℕ) → r ≤ i → i < 64 → high w r ≡ 0 → test w i ≡ false
none_from w r i from lt e = sym (test-high w r i from lt) ∙ ap (λ x. test x i) e ∙ test-zero i

-- no place from `from` on, and below `to`, is set
pub record AreClear (words : List ℕ) (from to : ℕ) : Type 0 where
  pub clear : (k : ℕ) → from ≤ k → k < to → bit_of words k ≡ false

-- the words go on being clear by a word's bits
pub clear_more : (words : List ℕ) (from w r : ℕ) → from ≤ 64 * w + r → AreClear words from (64 * w + r) → ((i : ℕ) → r ≤ i → i < 64 → test (get_or words w 0) i ≡ false) → AreClear words from (64 * (w + 1))
clear_more words from w r le before none = record { clear = λ k a b. at k a b (cases_lt k (64 * w + r)) }
  where
    at : (k : ℕ) → from ≤ k → k < 64 * (w + 1) → (k < 64 * w + r) ⊎ (64 * w + r ≤ k) → bit_of words k ≡ false
    at k a b (inl lt) = before.clear k a lt
    at k a b (inr more) =
        let i = k - 64 * w in
        let e : 64 * w + i ≡ k = omega arith in
        subst (λ p. bit_of words p ≡ false) e (bit_in_word words w i (omega arith) ∙ none i (omega arith) (omega arith))

-- the place that is found in the word w
pub found_in : (words : List ℕ) (n from w r t : ℕ) (items : List Bool) → bits_of words n ≡ items → IsClean words n → from ≤ 64 * w + r → AreClear words from (64 * w + r) → IsLowest (get_or words w 0) r t → IsNextSet items from (64 * w + t)
found_in words n from w r t items view clean le before l = record {
  in_range = omega (arith, l.in_range);
  set = place (64 * w + t) ∙ bit_in_word words w t l.within ∙ l.set;
  least = λ k a b. place k ∙ at k a b (cases_lt k (64 * w + r));
}
  where
    place : (k : ℕ) → is_set_at items k ≡ bit_of words k
    place k = ap (λ xs. is_set_at xs k) (sym view) ∙ by_place words n k clean

    at : (k : ℕ) → from ≤ k → k < 64 * w + t → (k < 64 * w + r) ⊎ (64 * w + r ≤ k) → bit_of words k ≡ false
    at k a b (inl lt) = before.clear k a lt
    at k a b (inr more) =
        let i = k - 64 * w in
        let e : 64 * w + i ≡ k = omega arith in
        subst (λ p. bit_of words p ≡ false) e (bit_in_word words w i (omega (arith, l.within)) ∙ l.least i (omega arith) (omega arith))

-- a place that is set is in the list
pub set_within : (words : List ℕ) (n w t : ℕ) → IsClean words n → t < 64 → test (get_or words w 0) t ≡ true → 64 * w + t < n
set_within words n w t clean lt set = at (cases_lt (64 * w + t) n)
  where
    at : (64 * w + t < n) ⊎ (n ≤ 64 * w + t) → 64 * w + t < n
    at (inl h) = h
    at (inr h) = let no : false ≡ true = sym (clean.rest (64 * w + t) h) ∙ bit_in_word words w t lt ∙ set in cc

pub none_set : (words : List ℕ) (n from to : ℕ) (items : List Bool) → bits_of words n ≡ items → IsClean words n → n ≤ to → AreClear words from to → IsNoneSet items from
none_set words n from to items view clean le before k a = ap (λ xs. is_set_at xs k) (sym view) ∙ by_place words n k clean ∙ at (cases_lt k to)
  where
    at : (k < to) ⊎ (to ≤ k) → bit_of words k ≡ false
    at (inl lt) = before.clear k a lt
    at (inr more) = clean.rest k (omega arith)
