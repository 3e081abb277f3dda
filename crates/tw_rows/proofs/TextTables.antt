-- Tables of texts: what their keys say of their texts.
use Rattle.std.specs.Prelude.{◌≡◌, ◌≢◌, ℕ, zero, suc, ◌<◌, Bool, true, false, ◌||◌, if◌then◌else◌, List, [], ◌∷◌, ◌++◌, map, length, slice_get, position, None, Some, not, ◌+◌, ◌≤◌, cond, Contains, AllPairs, refl}
use Rattle.std.proofs.Common.{sym, ◌∙◌, ap, subst, arith, true≢false, get_or, append-nil, append_assoc}
use Rattle.std.proofs.lemmas.Grind.{common_steps}
use Rattle.std.specs.Option.{option_map}
use Rattle.std.proofs.lemmas.Map.Keys.{IsDistinct-head, IsDistinct-tail, IsDistinct-cons}
use Rattle.indexmap.specs.IndexMap.{insert_entry}
use Rattle.std.specs.List.{list_any, position_or_len, IsDistinct, AllByRecursion}
use Rattle.std.specs.Map.{keys_of}
use Rattle.std.specs.Str.{bytes_eq}
use Rattle.std.specs.Cmp.Lexicographic.{nat_list_eq_equiv}
use Rattle.std.proofs.lemmas.Slice.Eq.{bytes_eq-Decides}
use Rattle.std.proofs.lemmas.Map.Made.{AllPairs-from_IsDistinct}
use Rattle.std.proofs.lemmas.Map.Views.{list_any-from_Contains}
use Rattle.std.proofs.lemmas.List.Quantifiers.{position-Some}
use Rattle.std.proofs.lemmas.Option.{slice_get_within, get_or_from_slice_get, slice_get-get_or, slice_get-map}
use Rattle.indexmap.proofs.CallerLemmas.{Contains-list_any}
use Rattle.tw_rows.specs.Texts.{interned, BeginsWith}

-- a text is in a table exactly where the test finds it
pub found_text : (texts : List (List ℕ)) (t : List ℕ) → list_any (bytes_eq t) texts ≡ true → Contains texts t
found_text texts t h = Contains-list_any bytes_eq (λ x y. (bytes_eq-Decides x y).0) texts t h

pub text_found : (texts : List (List ℕ)) (t : List ℕ) → Contains texts t → list_any (bytes_eq t) texts ≡ true
text_found texts t h = list_any-from_Contains nat_list_eq_equiv t texts h

pub absent_text : (texts : List (List ℕ)) (t : List ℕ) → list_any (bytes_eq t) texts ≡ false → ¬ (Contains texts t)
absent_text texts t none h = true≢false (sym (text_found texts t h) ∙ none)

pub text_absent : (texts : List (List ℕ)) (t : List ℕ) → ¬ (Contains texts t) → list_any (bytes_eq t) texts ≡ false
text_absent texts t none = by (list_any (bytes_eq t) texts) refl
  where
    by : (b : Bool) → list_any (bytes_eq t) texts ≡ b → list_any (bytes_eq t) texts ≡ false
    by true h = absurd (none (found_text texts t h))
    by false h = h

-- an item at a place is in the list
pub Contains-slice_get : {X : Type 0} (xs : List X) (i : ℕ) (x : X) → slice_get xs i ≡ Some x → Contains xs x
Contains-slice_get xs i x h = (i, slice_get_within xs i x h, get_or_from_slice_get xs i x x h)

module _ {K : Type 0} (bytes : K → List ℕ) where
  pub list_any-texts : (p : List ℕ → Bool) (ks : List K) → list_any p (map bytes ks) ≡ list_any (λ k. p (bytes k)) ks
  list_any-texts p [] = refl
  list_any-texts p (k ∷ ks) = ap (λ b. p (bytes k) || b) (list_any-texts p ks)

  -- a text stands where the key stands that passes its test
  pub placed_text : (t : List ℕ) (ks : List K) (i : ℕ) → position (λ k. bytes_eq t (bytes k)) ks ≡ Some i → i < length ks → slice_get (map bytes ks) i ≡ Some t
  placed_text t [] i at low = absurd (omega (arith, low))
  placed_text t (k ∷ ks) i at low =
      let found = position-Some (λ k. bytes_eq t (bytes k)) (k ∷ ks) i k at in
      slice_get-map bytes (k ∷ ks) i ∙ ap (option_map bytes) (slice_get-get_or (k ∷ ks) i k low)
      ∙ ap (λ b. Some b) (sym ((bytes_eq-Decides t (bytes (get_or (k ∷ ks) i k))).0 found.1))

  others : (x : List ℕ) (ks : List K) → AllByRecursion (λ k. bytes_eq x (bytes k) ≡ false) ks → AllByRecursion (λ y. bytes_eq x y ≡ false) (map bytes ks)
  others x [] h = h
  others x (k ∷ ks) h = (h.0, others x ks h.1)

  distinct_keys : (ks : List K) → IsDistinct (λ x y. bytes_eq (bytes x) (bytes y)) ks → IsDistinct bytes_eq (map bytes ks)
  unfolding IsDistinct
  distinct_keys [] h = h
  distinct_keys (k ∷ ks) h = IsDistinct-cons bytes_eq (bytes k) (map bytes ks) (others (bytes k) ks (IsDistinct-head _ k ks h)) (distinct_keys ks (IsDistinct-tail _ k ks h))

  -- keys that differ have texts that differ
  pub distinct_texts : (ks : List K) → IsDistinct (λ x y. bytes_eq (bytes x) (bytes y)) ks → AllPairs (λ x y. x ≢ y) (map bytes ks)
  distinct_texts ks h = AllPairs-from_IsDistinct bytes_eq-Decides (map bytes ks) (distinct_keys ks h)

  -- a key whose text is new goes last
  pub added_text : {V : Type 0} (t : List ℕ) (k : K) (v : V) (es : List (K × V)) → t ≡ bytes k → ¬ (Contains (map bytes (keys_of es)) t)
      → map bytes (keys_of (insert_entry (λ x y. bytes_eq (bytes x) (bytes y)) es k v)) ≡ map bytes (keys_of es) ++ t ∷ []
  added_text t k v es is none = by es (sym (list_any-texts (bytes_eq (bytes k)) (keys_of es)) ∙ text_absent (map bytes (keys_of es)) (bytes k) (subst (λ x. ¬ (Contains (map bytes (keys_of es)) x)) is none))
    where
      by : (fs : List _) → list_any (λ y. bytes_eq (bytes k) (bytes y)) (keys_of fs) ≡ false
          → map bytes (keys_of (insert_entry (λ x y. bytes_eq (bytes x) (bytes y)) fs k v)) ≡ map bytes (keys_of fs) ++ t ∷ []
      by [] h = ap (λ x. x ∷ []) (sym is)
      by (f ∷ fs) h = go (bytes_eq (bytes k) (bytes f.0)) h (by fs)
        where
          go : (b : Bool) → (b || list_any (λ y. bytes_eq (bytes k) (bytes y)) (keys_of fs)) ≡ false
              → (list_any (λ y. bytes_eq (bytes k) (bytes y)) (keys_of fs) ≡ false → map bytes (keys_of (insert_entry (λ x y. bytes_eq (bytes x) (bytes y)) fs k v)) ≡ map bytes (keys_of fs) ++ t ∷ [])
              → map bytes (keys_of (if b then (f.0, v) ∷ fs else f ∷ insert_entry (λ x y. bytes_eq (bytes x) (bytes y)) fs k v)) ≡ bytes f.0 ∷ map bytes (keys_of fs) ++ t ∷ []
          go true h rest = absurd (true≢false h)
          go false h rest = ap (λ l. bytes f.0 ∷ l) (rest h)

  -- a text that its test finds nowhere is not there
  pub missing_text : (t : List ℕ) (ks : List K) → position (λ k. bytes_eq t (bytes k)) ks ≡ None → list_any (λ k. bytes_eq t (bytes k)) ks ≡ false
  missing_text t ks none = past ks (grind (arith, common_steps, none))
    where
      p : K → Bool
      p k = bytes_eq t (bytes k)

      past : (xs : List K) → length xs ≤ position_or_len p xs → list_any p xs ≡ false
      past [] h = refl
      past (x ∷ xs) h = by (p x) h (past xs)
        where
          by : (b : Bool) → suc (length xs) ≤ cond (not b) (1 + position_or_len p xs) 0 → (length xs ≤ position_or_len p xs → list_any p xs ≡ false) → (b || list_any p xs) ≡ false
          by true h rest = absurd (omega (arith, h))
          by false h rest = rest (omega (arith, h))

-- a table after a text that it has, and after one that it has not
pub interned-known : (texts : List (List ℕ)) (t : List ℕ) → Contains texts t → interned texts t ≡ texts
interned-known texts t h = ap (λ b. if b then texts else texts ++ t ∷ []) (text_found texts t h)

pub interned-new : (texts : List (List ℕ)) (t : List ℕ) → ¬ (Contains texts t) → interned texts t ≡ texts ++ t ∷ []
interned-new texts t h = ap (λ b. if b then texts else texts ++ t ∷ []) (text_absent texts t h)

-- two places of one text are one place
pub one_place : {X : Type 0} (xs : List X) (i j : ℕ) (x : X) → AllPairs (λ a b. a ≢ b) xs → slice_get xs i ≡ Some x → slice_get xs j ≡ Some x → i ≡ j
one_place xs i j x apart hi hj =
    let bi = get_or_from_slice_get xs i x x hi in
    let bj = get_or_from_slice_get xs j x x hj in
    let li = slice_get_within xs i x hi in
    let lj = slice_get_within xs j x hj in
    let p = λ (l : i < j). apart i j x l lj (bi ∙ sym bj) in
    let q = λ (l : j < i). apart j i x l li (bj ∙ sym bi) in
    grind (arith, p, q)

pub BeginsWith-refl : {X : Type 0} (xs : List X) → BeginsWith xs xs
BeginsWith-refl xs = ([], sym (append-nil xs))

pub BeginsWith-trans : {X : Type 0} (xs ys zs : List X) → BeginsWith zs ys → BeginsWith ys xs → BeginsWith zs xs
BeginsWith-trans xs ys zs h k = (k.0 ++ h.0, h.1 ∙ ap (λ l. l ++ h.0) k.1 ∙ append_assoc xs k.0 h.0)

pub BeginsWith-interned : (texts : List (List ℕ)) (t : List ℕ) → BeginsWith (interned texts t) texts
BeginsWith-interned texts t = by (list_any (bytes_eq t) texts)
  where
    by : (b : Bool) → BeginsWith (if b then texts else texts ++ t ∷ []) texts
    by true = BeginsWith-refl texts
    by false = (t ∷ [], refl)

-- an item that is added last stands where the list ended
pub slice_get-last : {X : Type 0} (xs : List X) (x : X) → slice_get (xs ++ x ∷ []) (length xs) ≡ Some x
slice_get-last [] x = refl
slice_get-last (y ∷ ys) x = slice_get-last ys x

-- an item keeps its place
pub slice_get-append : {X : Type 0} (xs more : List X) (i : ℕ) (x : X) → slice_get xs i ≡ Some x → slice_get (xs ++ more) i ≡ Some x
slice_get-append [] more i x h = absurd (cc)
slice_get-append (y ∷ ys) more zero x h = h
slice_get-append (y ∷ ys) more (suc i) x h = slice_get-append ys more i x h
