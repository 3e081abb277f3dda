-- The bits of words, place by place.
use Rattle.std.proofs.Common.{◌≡◌, ◌≢◌, ℕ, suc, ◌+◌, ◌-◌, ◌*◌, ◌/◌, ◌%◌, ◌^◌, ◌<◌, ◌≤◌, Bool, true, false, ◌==◌, ◌&&◌, ◌||◌, List, [], ◌∷◌, ◌++◌, length, get_or, set, refl, sym, ap, ap₂, ◌∙◌, subst, arith, ◌⊎◌, inl, inr}
use Rattle.std.proofs.lemmas.List.{get_or_append_left, get_or-append_right, length-append, get_or_past, get_or_push, length_push, get_or-set_same, get_or-set_other}
use Rattle.std.proofs.lemmas.List.FromFn.{length-map-range_with_len, get_or-map-range_with_len, fill_by_all}
use Rattle.std.proofs.lemmas.Nat.Bits.{bit_at_above, bit_at-zero}
use Rattle.std.proofs.lemmas.Bool.{cases_lt, cases_order}
use lib.Bits.{bit_and, bit_or}
use mir.Val.{bool_byte}
use Rattle.occupancy.specs.Bits.{Bits, is_set_at, both, test, bit_of, bits_of, word_bits, IsClean}
use Rattle.occupancy.proofs.Both.{length-both, is_set_at-both}
use Rattle.occupancy.proofs.Test.{shl, test-and, test-or, test-shl_high, test-shl_low, test-byte_zero, test-byte_suc}

pub length-bits_of : (words : List ℕ) (n : ℕ) → length (bits_of words n) ≡ n
unfolding bits_of
length-bits_of words n = length-map-range_with_len (bit_of words) 0 n

-- within the list
pub get_or-bits_of : (words : List ℕ) (n i : ℕ) → i < n → get_or (bits_of words n) i false ≡ bit_of words i
unfolding bits_of
get_or-bits_of words n i lt = get_or-map-range_with_len (bit_of words) 0 n i i false lt (omega arith)

pub by_place : (words : List ℕ) (n i : ℕ) → IsClean words n → is_set_at (bits_of words n) i ≡ bit_of words i
by_place words n i clean = go (cases_lt i n)
  where
    go : (i < n) ⊎ (n ≤ i) → is_set_at (bits_of words n) i ≡ bit_of words i
    go (inl lt) = get_or-bits_of words n i lt
    go (inr le) = get_or_past (bits_of words n) i false (omega (arith, length-bits_of words n)) ∙ sym (clean.rest i le)

-- a list of bits is known by its places
pub all_places : (words : List ℕ) (xs : List Bool) (n : ℕ) → length xs ≡ n → ((k : ℕ) → k < n → get_or xs k false ≡ bit_of words k) → xs ≡ bits_of words n
unfolding bits_of
all_places words xs n long same = fill_by_all (bit_of words) xs n false long same

-- the bit j of word w
pub bit_in_word : (words : List ℕ) (w j : ℕ) → j < 64 → bit_of words (64 * w + j) ≡ test (get_or words w 0) j
unfolding bit_of
bit_in_word words w j lt =
    let p : (64 * w + j) / 64 ≡ w = omega arith in
    let q : (64 * w + j) % 64 ≡ j = omega arith in
    ap₂ (λ a b. test (get_or words a 0) b) p q

pub test-zero : (j : ℕ) → test 0 j ≡ false
unfolding test
test-zero j = ap (λ x. x == 1) (bit_at-zero j)

pub test_above : (w m i : ℕ) → w < 2 ^ m → m ≤ i → test w i ≡ false
unfolding test
test_above w m i lt le = ap (λ x. x == 1) (bit_at_above w m i lt le)

bit_of_append : (words ys : List ℕ) (k : ℕ) → k < 64 * length words → bit_of (words ++ ys) k ≡ bit_of words k
unfolding bit_of
bit_of_append words ys k lt = let h : k / 64 < length words = omega arith in ap (λ w. test w (k % 64)) (get_or_append_left words ys 0 (k / 64) h)

bit_of_last : (words : List ℕ) (w n k : ℕ) → n ≡ 64 * length words → n ≤ k → k < n + 64 → bit_of (words ++ w ∷ []) k ≡ test w (k - n)
unfolding bit_of
bit_of_last words w n k long from lt =
    let p : length words ≡ k / 64 = omega arith in
    let q : k % 64 ≡ k - n = omega arith in
    ap₂ test (get_or_push words w 0 (k / 64) p) q

bit_of_past : (words : List ℕ) (k : ℕ) → 64 * length words ≤ k → bit_of words k ≡ false
unfolding bit_of
bit_of_past words k le = let h : length words ≤ k / 64 = omega arith in ap (λ w. test w (k % 64)) (get_or_past words (k / 64) 0 h) ∙ test-zero (k % 64)

pub bits_pushed : (words : List ℕ) (w n m : ℕ) → n ≡ 64 * length words → m ≤ 64 → bits_of words n ++ word_bits w m ≡ bits_of (words ++ w ∷ []) (n + m)
bits_pushed words w n m long few = all_places (words ++ w ∷ []) (bits_of words n ++ word_bits w m) (n + m) total place
  where
    part : length (word_bits w m) ≡ m
    part = length-map-range_with_len (test w) 0 m

    total : length (bits_of words n ++ word_bits w m) ≡ n + m
    total = length-append (bits_of words n) (word_bits w m) ∙ ap₂ (λ a b. a + b) (length-bits_of words n) part

    at : (k : ℕ) → k < n + m → (k < n) ⊎ (n ≤ k) → get_or (bits_of words n ++ word_bits w m) k false ≡ bit_of (words ++ w ∷ []) k
    at k lt (inl low) =
        let h : k < length (bits_of words n) = omega (arith, length-bits_of words n) in
        get_or_append_left (bits_of words n) (word_bits w m) false k h ∙ get_or-bits_of words n k low ∙ sym (bit_of_append words (w ∷ []) k (omega arith))
    at k lt (inr high) =
        get_or-append_right (bits_of words n) (word_bits w m) n k false (length-bits_of words n) high
        ∙ get_or-map-range_with_len (test w) 0 m (k - n) (k - n) false (omega arith) (omega arith)
        ∙ sym (bit_of_last words w n k long high (omega arith))

    place : (k : ℕ) → k < n + m → get_or (bits_of words n ++ word_bits w m) k false ≡ bit_of (words ++ w ∷ []) k
    place k lt = at k lt (cases_lt k n)

pub clean_pushed : (words : List ℕ) (w n m : ℕ) → n ≡ 64 * length words → m ≤ 64 → w < 2 ^ m → IsClean (words ++ w ∷ []) (n + m)
clean_pushed words w n m long few below = record { rest = λ k le. at k le (cases_lt k (n + 64)) }
  where
    at : (k : ℕ) → n + m ≤ k → (k < n + 64) ⊎ (n + 64 ≤ k) → bit_of (words ++ w ∷ []) k ≡ false
    at k le (inl lt) = bit_of_last words w n k long (omega arith) lt ∙ test_above w m (k - n) below (omega arith)
    at k le (inr past) = bit_of_past (words ++ w ∷ []) k (omega (arith, length_push words w))

pub bit_of_set_other : (words : List ℕ) (i w k : ℕ) → k / 64 ≢ i → bit_of (set words i w) k ≡ bit_of words k
unfolding bit_of
bit_of_set_other words i w k other = ap (λ x. test x (k % 64)) (get_or-set_other words i (k / 64) w 0 other)

pub bit_of_set_same : (words : List ℕ) (i w k : ℕ) → i < length words → k / 64 ≡ i → bit_of (set words i w) k ≡ test w (k % 64)
unfolding bit_of
bit_of_set_same words i w k lt e = ap (λ p. test (get_or (set words i w) p 0) (k % 64)) e ∙ ap (λ x. test x (k % 64)) (get_or-set_same words i w 0 lt)

or_no : (b : Bool) → (b || false) ≡ b
or_no true = refl
or_no false = refl

-- where n is the place of the next bit, in the word i
module _ (words : List ℕ) (n i : ℕ) (b : Bool) (lt : i < length words) (is : n / 64 ≡ i) (clean : IsClean words n) where
  abbrev next : List ℕ
  next = set words i (bit_or (get_or words i 0) (shl (n % 64) (bool_byte b)))

  same_word : (k : ℕ) → k / 64 ≡ i → bit_of next k ≡ (bit_of words k || test (shl (n % 64) (bool_byte b)) (k % 64))
  unfolding bit_of
  same_word k e =
      bit_of_set_same words i _ k lt e ∙ test-or (get_or words i 0) (shl (n % 64) (bool_byte b)) (k % 64)
      ∙ ap (λ p. test (get_or words p 0) (k % 64) || test (shl (n % 64) (bool_byte b)) (k % 64)) (sym e)

  below_next : (k : ℕ) → k < n → bit_of next k ≡ bit_of words k
  below_next k less = at (cases_order (k / 64) i)
    where
      at : (k / 64 ≡ i) ⊎ ((k / 64 < i) ⊎ (i < k / 64)) → bit_of next k ≡ bit_of words k
      at (inl e) = same_word k e ∙ ap (λ x. bit_of words k || x) (test-shl_low (n % 64) (k % 64) (bool_byte b) (omega arith) (omega arith)) ∙ or_no (bit_of words k)
      at (inr (inl l)) = bit_of_set_other words i _ k (λ e. omega arith)
      at (inr (inr g)) = bit_of_set_other words i _ k (λ e. omega arith)

  at_next : bit_of next n ≡ b
  at_next =
      let e : n % 64 + 0 ≡ n % 64 = omega arith in
      same_word n is ∙ ap₂ (λ x y. x || y) (clean.rest n (omega arith)) (ap (test (shl (n % 64) (bool_byte b))) (sym e) ∙ test-shl_high (n % 64) 0 (bool_byte b) (omega arith) ∙ test-byte_zero b)

  above_next : (k : ℕ) → n + 1 ≤ k → bit_of next k ≡ false
  above_next k le = at (cases_order (k / 64) i)
    where
      at : (k / 64 ≡ i) ⊎ ((k / 64 < i) ⊎ (i < k / 64)) → bit_of next k ≡ false
      at (inl e) =
          let j = k % 64 - n % 64 - 1 in
          let p : n % 64 + suc j ≡ k % 64 = omega arith in
          same_word k e ∙ ap₂ (λ x y. x || y) (clean.rest k (omega arith))
          (ap (test (shl (n % 64) (bool_byte b))) (sym p) ∙ test-shl_high (n % 64) (suc j) (bool_byte b) (omega arith) ∙ test-byte_suc b j (omega arith))
      at (inr (inl l)) = bit_of_set_other words i _ k (λ e. omega arith) ∙ clean.rest k (omega arith)
      at (inr (inr g)) = bit_of_set_other words i _ k (λ e. omega arith) ∙ clean.rest k (omega arith)

  pub bits_set : bits_of words n ++ b ∷ [] ≡ bits_of next (n + 1)
  bits_set = all_places next (bits_of words n ++ b ∷ []) (n + 1) (length_push (bits_of words n) b ∙ ap (λ x. x + 1) (length-bits_of words n)) (λ k less. at k less (cases_lt k n))
    where
      at : (k : ℕ) → k < n + 1 → (k < n) ⊎ (n ≤ k) → get_or (bits_of words n ++ b ∷ []) k false ≡ bit_of next k
      at k less (inl low) =
          let h : k < length (bits_of words n) = omega (arith, length-bits_of words n) in
          get_or_append_left (bits_of words n) (b ∷ []) false k h ∙ get_or-bits_of words n k low ∙ sym (below_next k low)
      at k less (inr high) =
          let e : n ≡ k = omega arith in
          get_or_push (bits_of words n) b false k (length-bits_of words n ∙ e) ∙ sym (subst (λ x. bit_of next x ≡ b) e at_next)

  pub clean_set : IsClean next (n + 1)
  clean_set = record { rest = above_next }

-- what contracts see, from its parts
abbrev pub seen : List Bool → ℕ → Bits
seen items capacity = record { items = items; capacity = capacity }

pub seen_length : (words : List ℕ) (n cap : ℕ) (v : Bits) → seen (bits_of words n) cap ≡ v → (length v.items ≡ n) × (cap ≡ v.capacity)
seen_length words n cap v e = (sym (ap (λ b. length b.items) e) ∙ length-bits_of words n, ap (λ b. b.capacity) e)

pub no_bits : (words : List ℕ) → bits_of words 0 ≡ []
unfolding bits_of
no_bits words = refl

pub clean_none : (words : List ℕ) → words ≡ [] → IsClean words 0
clean_none words e = record { rest = λ k le. bit_of_past words k (omega (arith, ap length e)) }

pub one_bit : (b : Bool) → word_bits (bool_byte b) 1 ≡ b ∷ []
one_bit b = ap (λ x. x ∷ []) (test-byte_zero b)

pub bool_small : (b : Bool) → bool_byte b < 2 ^ 1
bool_small true = omega arith
bool_small false = omega arith

module _ (ws ms vs : List ℕ) (each : (k : ℕ) → get_or vs k 0 ≡ bit_and (get_or ws k 0) (get_or ms k 0)) where
  bit_of_and : (k : ℕ) → bit_of vs k ≡ (bit_of ws k && bit_of ms k)
  unfolding bit_of
  bit_of_and k = ap (λ w. test w (k % 64)) (each (k / 64)) ∙ test-and (get_or ws (k / 64) 0) (get_or ms (k / 64) 0) (k % 64)

  pub bits_and : (n : ℕ) → bits_of vs n ≡ both (bits_of ws n) (bits_of ms n)
  bits_and n =
      sym (all_places vs (both (bits_of ws n) (bits_of ms n)) n (length-both (bits_of ws n) (bits_of ms n) (length-bits_of ms n ∙ sym (length-bits_of ws n)) ∙ length-bits_of ws n)
      (λ k lt. is_set_at-both (bits_of ws n) (bits_of ms n) k ∙ ap₂ (λ x y. x && y) (get_or-bits_of ws n k lt) (get_or-bits_of ms n k lt) ∙ sym (bit_of_and k)))

  pub clean_and : (n : ℕ) → IsClean ws n → IsClean vs n
  clean_and n clean = record { rest = λ k le. bit_of_and k ∙ ap (λ b. b && bit_of ms k) (clean.rest k le) }
