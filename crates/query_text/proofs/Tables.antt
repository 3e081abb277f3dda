-- What stands in a table of words.
use Rattle.std.proofs.Common.{◌≡◌, ℕ, zero, suc, ◌≤◌, Bool, true, false, ◌&&◌, nat_le, if◌then◌else◌, Some, None, List, [], ◌∷◌, length, take, refl, ap, sym, ◌∙◌, arith, true≢false, ◌⊎◌, inl, inr}
use Rattle.std.specs.Bool.{◌==◌}
use Rattle.std.specs.List.{list_all, starts_with}
use Rattle.std.proofs.lemmas.Bool.{eqb-true, eq-eqb, and_parts}
use Rattle.std.proofs.lemmas.Bool.Decides.{nat_tests}
use Rattle.query_text.specs.declared.word.Sign.{Sign}
use Rattle.query_text.specs.declared.word.Word.{Word}
use Rattle.query_text.specs.declared.word.Word.TheVariants as W
use Rattle.query_text.specs.Words.{same_bytes, look_up, first_of_table}
use Rattle.query_text.proofs.Signs.{starts_length}

same_is : (a b : List ℕ) → same_bytes a b ≡ true → a ≡ b
same_is [] [] e = refl
same_is [] (y ∷ b) e = cc
same_is (x ∷ a) [] e = cc
same_is (x ∷ a) (y ∷ b) e = let p = and_parts (x == y) (same_bytes a b) e in rw (eqb-true x y p.0, same_is a b p.1) refl

same_self : (a : List ℕ) → same_bytes a a ≡ true
same_self [] = refl
same_self (x ∷ a) = rw (eq-eqb x x refl) (same_self a)

-- bytes begin with a word where as many of them are the word
starts_from : (bs word : List ℕ) → take (length word) bs ≡ word → starts_with ◌==◌ bs word ≡ true
starts_from bs [] e = refl
starts_from [] (a ∷ word) e = cc
starts_from (b ∷ bs) (a ∷ word) e =
    let h : b ≡ a = cc in
    let t : take (length word) bs ≡ word = cc in
    rw (h, eq-eqb a a refl) (starts_from bs word t)

starts_to : (bs word : List ℕ) → starts_with ◌==◌ bs word ≡ true → take (length word) bs ≡ word
starts_to bs [] e = refl
starts_to [] (a ∷ word) e = cc
starts_to (b ∷ bs) (a ∷ word) e = let p = and_parts (a == b) (starts_with ◌==◌ bs word) e in rw (eqb-true a b p.0, starts_to bs word p.1) refl

pub taken : (m : ℕ) (bs : List ℕ) → take (length (take m bs)) bs ≡ take m bs
taken zero bs = refl
taken (suc m) [] = refl
taken (suc m) (b ∷ bs) = ap (λ x. b ∷ x) (taken m bs)

-- what each word of the table has, so has the word that was found
pub found_has : (p : List ℕ → Bool) (table : List (List ℕ × Sign)) (word : List ℕ) (s : Sign) → list_all (λ e. p e.0) table ≡ true → look_up table word ≡ Some s → p word ≡ true
found_has p [] word s h e = cc
found_has p (x ∷ table) word s h e = let q = and_parts (p x.0) (list_all (λ e. p e.0) table) h in here (same_bytes x.0 word) refl q.0 (found_has p table word s q.1) e
  where
    here : (y : Bool) → same_bytes x.0 word ≡ y → p x.0 ≡ true → (look_up table word ≡ Some s → p word ≡ true) → (if y then Some x.1 else look_up table word) ≡ Some s → p word ≡ true
    here true f g k e = rw (← same_is x.0 word f) g
    here false f g k e = k e

-- no word is longer than one before it
abbrev pub falls : List (List ℕ × Sign) → Bool
falls [] = true
falls (x ∷ table) = list_all (λ e. nat_le (length e.0) (length x.0)) table && falls table

same_taken : (n : ℕ) (bs word : List ℕ) → word ≡ take n bs → take (length word) bs ≡ word
same_taken n bs word e = rw e (taken n bs)

-- a front that is this word
starts_same : (m : ℕ) (bs word : List ℕ) → same_bytes word (take m bs) ≡ true → starts_with ◌==◌ bs word ≡ true
starts_same m bs word e = starts_from bs word (same_taken m bs word (same_is word (take m bs) e))

fixed_is : (t s : Sign) (k n : ℕ) → ◌≡◌ {A = Word × ℕ} (W.Fixed t, k) (W.Fixed s, n) → (t ≡ s) × (k ≡ n)
fixed_is t s k n e = let f : W.Fixed t ≡ W.Fixed s = ap (λ x. x.0) e in let g : t ≡ s = cc in (g, ap (λ x. x.1) e)

bad_is_none : (s : Sign) (n : ℕ) → ◌≡◌ {A = Word × ℕ} (W.Bad, 1) (W.Fixed s, n) → ⊥
bad_is_none s n e = let f : W.Bad ≡ W.Fixed s = ap (λ x. x.0) e in cc

-- the first of the table is a word of the table
pub first_found : (table : List (List ℕ × Sign)) (bs : List ℕ) (s : Sign) (n : ℕ) → first_of_table table bs ≡ (W.Fixed s, n) → (n ≤ length bs) × (look_up table (take n bs) ≡ Some s)
first_found [] bs s n e = absurd (bad_is_none s n e)
first_found (x ∷ table) bs s n e = here (starts_with ◌==◌ bs x.0) refl (first_found table bs s n) e
  where
    here : (y : Bool) → starts_with ◌==◌ bs x.0 ≡ y → (first_of_table table bs ≡ (W.Fixed s, n) → (n ≤ length bs) × (look_up table (take n bs) ≡ Some s))
        → (if y then (W.Fixed x.1, length x.0) else first_of_table table bs) ≡ (W.Fixed s, n) → (n ≤ length bs) × (look_up (x ∷ table) (take n bs) ≡ Some s)
    here true f k e =
        let p = fixed_is x.1 s (length x.0) n e in
        let t : take n bs ≡ x.0 = rw (← p.1) (starts_to bs x.0 f) in
        (rw (← p.1) (starts_length bs x.0 f), rw (t, same_self x.0) (ap (λ z. Some z) p.0))
    here false f k e = ((k e).0, not_first (same_bytes x.0 (take n bs)) refl (k e).1)
      where
        not_first : (y : Bool) → same_bytes x.0 (take n bs) ≡ y → look_up table (take n bs) ≡ Some s → (if y then Some x.1 else look_up table (take n bs)) ≡ Some s
        not_first true g h = let i = starts_same n bs x.0 g in absurd (true≢false (sym i ∙ f))
        not_first false g h = h

-- a word of the table that the bytes begin with is no longer than the first
pub first_longest : (table : List (List ℕ × Sign)) (bs : List ℕ) (m : ℕ) (s : Sign) → falls table ≡ true → look_up table (take m bs) ≡ Some s
    → (length (take m bs) ≤ (first_of_table table bs).1) × ((first_of_table table bs).0 ≡ W.Bad → ⊥)
first_longest [] bs m s h e = absurd (let f : None ≡ Some s = e in cc)
first_longest (x ∷ table) bs m s h e =
    let q = and_parts (list_all (λ e. nat_le (length e.0) (length x.0)) table) (falls table) h in
    step (same_bytes x.0 (take m bs)) (starts_with ◌==◌ bs x.0) refl refl q.0 (first_longest table bs m s q.1) e
  where
    step : (y z : Bool) → same_bytes x.0 (take m bs) ≡ y → starts_with ◌==◌ bs x.0 ≡ z → list_all (λ e. nat_le (length e.0) (length x.0)) table ≡ true
        → (look_up table (take m bs) ≡ Some s → (length (take m bs) ≤ (first_of_table table bs).1) × ((first_of_table table bs).0 ≡ W.Bad → ⊥))
        → (if y then Some x.1 else look_up table (take m bs)) ≡ Some s
        → (length (take m bs) ≤ (if z then (W.Fixed x.1, length x.0) else first_of_table table bs).1) × ((if z then (W.Fixed x.1, length x.0) else first_of_table table bs).0 ≡ W.Bad → ⊥)
    step true true f g l k e = (rw (← same_is x.0 (take m bs) f) (omega arith), λ b. cc)
    step true false f g l k e = absurd (true≢false (sym (starts_same m bs x.0 f) ∙ g))
    step false true f g l k e =
        let t : nat_le (length (take m bs)) (length x.0) ≡ true = found_has (λ w. nat_le (length w) (length x.0)) table (take m bs) s l e in
        (grind (arith, nat_tests), λ b. cc)
    step false false f g l k e = k e

-- a word of the table, or one byte that is left out
pub first_either : (table : List (List ℕ × Sign)) (bs : List ℕ) → ((s : Sign) × (n : ℕ) × (first_of_table table bs ≡ (W.Fixed s, n))) ⊎ (first_of_table table bs ≡ (W.Bad, 1))
first_either [] bs = inr refl
first_either (x ∷ table) bs = here (starts_with ◌==◌ bs x.0) (first_either table bs)
  where
    here : (y : Bool) → ((s : Sign) × (n : ℕ) × (first_of_table table bs ≡ (W.Fixed s, n))) ⊎ (first_of_table table bs ≡ (W.Bad, 1))
        → ((s : Sign) × (n : ℕ) × ((if y then (W.Fixed x.1, length x.0) else first_of_table table bs) ≡ (W.Fixed s, n))) ⊎ ((if y then (W.Fixed x.1, length x.0) else first_of_table table bs) ≡ (W.Bad, 1))
    here true k = inl (x.1, length x.0, refl)
    here false k = k
