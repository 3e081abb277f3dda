-- The word that is taken first, against all that looks like a word.
use Rattle.std.proofs.Common.{◌≡◌, ℕ, zero, suc, ◌+◌, ◌<◌, ◌≤◌, Bool, true, false, ◌||◌, not, nat_le, if◌then◌else◌, Option, Some, None, List, [], ◌∷◌, ◌++◌, length, take, drop, ◌⊎◌, inl, inr, refl, ap, sym, subst, ◌∙◌, arith, true≢false, get_or-take, length-take-le, append_assoc, length-append}
use Rattle.std.specs.Bool.{◌==◌}
use Rattle.std.specs.List.{list_all, prefix_len}
use Rattle.std.proofs.Math.Seq.{take-suc}
use Rattle.std.proofs.lemmas.Bool.{eqb-true, eq-eqb, and_parts}
use Rattle.std.proofs.lemmas.Bool.Decides.{nat_tests}
use Rattle.std.proofs.lemmas.List.{take-append-drop}
use Rattle.std.proofs.lemmas.List.Folds.{length-prefix_len}
use Rattle.std.proofs.lemmas.List.Sums.{prefix_len-le-length}
use Rattle.query_text.specs.declared.word.Sign.{Sign}
use Rattle.query_text.specs.declared.word.Word.{Word}
use Rattle.query_text.specs.declared.word.Word.TheVariants as W
use Rattle.query_text.specs.Words.{is_letter, is_digit, is_name_byte, short_name, name_word, name_length, number_word, number_length, fraction_length, decimal_from, numeric_of, numeric_front, quoted_rest, quoted_word, first_of_table, signs, reserved, look_up, front_of}
use Rattle.query_text.specs.Forms.{IsNameForm, IsNumberForm, IsDecimalForm, IsQuotedForm, IsOpenForm, IsSignForm, HasForm, IsWord, IsFormless, IsPastLimit}
use Rattle.query_text.proofs.Inside.{Rests, rests, inside_rest, quote_first}
use Rattle.query_text.proofs.Numeric.{Numbered, numbered, decimal_fits, decimal_is, pointed, run_most, run_all, run_some}
use Rattle.query_text.proofs.Tables.{found_has, first_found, first_longest, first_either}

-- how the bytes of a sign begin
abbrev pub starts_sign : List ℕ → Bool
starts_sign [] = false
starts_sign (b ∷ bs) = not (is_letter b || is_digit b || b == 39)

no_letter : (b : ℕ) (bs : List ℕ) → starts_sign (b ∷ bs) ≡ true → is_letter b ≡ true → ⊥
no_letter b bs h e = grind (arith, nat_tests)

no_digit : (b : ℕ) (bs : List ℕ) → starts_sign (b ∷ bs) ≡ true → is_digit b ≡ true → ⊥
no_digit b bs h e = grind (arith, nat_tests)

no_quote : (b : ℕ) (bs : List ℕ) → starts_sign (b ∷ bs) ≡ true → b ≡ 39 → ⊥
no_quote b bs h e = grind (arith, nat_tests)

letter_no_digit : (b : ℕ) → is_letter b ≡ true → is_digit b ≡ true → ⊥
letter_no_digit b h e = grind (arith, nat_tests)

letter_no_quote : (b : ℕ) → is_letter b ≡ true → b ≡ 39 → ⊥
letter_no_quote b h e = grind (arith, nat_tests)

digit_no_quote : (b : ℕ) → is_digit b ≡ true → b ≡ 39 → ⊥
digit_no_quote b h e = grind (arith, nat_tests)

pub number_head : (b : ℕ) (bs : List ℕ) → IsNumberForm (b ∷ bs) → is_digit b ≡ true
number_head b bs h = (and_parts (is_digit b) (list_all is_digit bs) h.all).0

pub decimal_head : (b : ℕ) (bs : List ℕ) → IsDecimalForm (b ∷ bs) → is_digit b ≡ true
decimal_head b bs h = here h.whole h.number h.pointed
  where
    here : (w : List ℕ) → IsNumberForm w → b ∷ bs ≡ w ++ 46 ∷ h.fraction → is_digit b ≡ true
    here [] n e = absurd (let s = n.some in omega arith)
    here (x ∷ w) n e = let g : b ≡ x = cc in rw g (number_head x w n)

pub open_head : (b : ℕ) (bs : List ℕ) → IsOpenForm (b ∷ bs) → b ≡ 39
open_head b bs h = let e = h.opened in cc

no_point : (w fs : List ℕ) → [] ≡ w ++ 46 ∷ fs → ⊥
no_point [] fs e = cc
no_point (b ∷ w) fs e = cc

pub quoted_head : (b : ℕ) (bs : List ℕ) → IsQuotedForm (b ∷ bs) → b ≡ 39
quoted_head b bs h = let e = h.quoted in cc

pub sign_head : (bs : List ℕ) → IsSignForm bs → starts_sign bs ≡ true
sign_head bs h = found_has starts_sign signs bs h.sign refl h.found

pub no_empty : HasForm [] → ⊥
no_empty (inl h) = let e = h.first in cc
no_empty (inr (inl h)) = let e = h.some in omega arith
no_empty (inr (inr (inl h))) = no_point h.whole h.fraction h.pointed
no_empty (inr (inr (inr (inl h)))) = let e = h.quoted in cc
no_empty (inr (inr (inr (inr (inl h))))) = let e = h.opened in cc
no_empty (inr (inr (inr (inr (inr h))))) = let e = h.found in cc

only_name : (b : ℕ) (bs : List ℕ) → is_letter b ≡ true → HasForm (b ∷ bs) → IsNameForm (b ∷ bs)
only_name b bs e (inl h) = h
only_name b bs e (inr (inl h)) = absurd (letter_no_digit b e (number_head b bs h))
only_name b bs e (inr (inr (inl h))) = absurd (letter_no_digit b e (decimal_head b bs h))
only_name b bs e (inr (inr (inr (inl h)))) = absurd (letter_no_quote b e (quoted_head b bs h))
only_name b bs e (inr (inr (inr (inr (inl h))))) = absurd (letter_no_quote b e (open_head b bs h))
only_name b bs e (inr (inr (inr (inr (inr h))))) = absurd (no_letter b bs (sign_head (b ∷ bs) h) e)

only_numeric : (b : ℕ) (bs : List ℕ) → is_digit b ≡ true → HasForm (b ∷ bs) → IsNumberForm (b ∷ bs) ⊎ IsDecimalForm (b ∷ bs)
only_numeric b bs e (inl h) = absurd (letter_no_digit b h.first e)
only_numeric b bs e (inr (inl h)) = inl h
only_numeric b bs e (inr (inr (inl h))) = inr h
only_numeric b bs e (inr (inr (inr (inl h)))) = absurd (digit_no_quote b e (quoted_head b bs h))
only_numeric b bs e (inr (inr (inr (inr (inl h))))) = absurd (digit_no_quote b e (open_head b bs h))
only_numeric b bs e (inr (inr (inr (inr (inr h))))) = absurd (no_digit b bs (sign_head (b ∷ bs) h) e)

only_quoted : (b : ℕ) (bs : List ℕ) → b ≡ 39 → HasForm (b ∷ bs) → IsQuotedForm (b ∷ bs) ⊎ IsOpenForm (b ∷ bs)
only_quoted b bs e (inl h) = absurd (letter_no_quote b h.first e)
only_quoted b bs e (inr (inl h)) = absurd (digit_no_quote b (number_head b bs h) e)
only_quoted b bs e (inr (inr (inl h))) = absurd (digit_no_quote b (decimal_head b bs h) e)
only_quoted b bs e (inr (inr (inr (inl h)))) = inl h
only_quoted b bs e (inr (inr (inr (inr (inl h))))) = inr h
only_quoted b bs e (inr (inr (inr (inr (inr h))))) = absurd (no_quote b bs (sign_head (b ∷ bs) h) e)

only_sign : (b : ℕ) (bs : List ℕ) → is_letter b ≡ false → is_digit b ≡ false → (b == 39) ≡ false → HasForm (b ∷ bs) → IsSignForm (b ∷ bs)
only_sign b bs l d q (inl h) = absurd (true≢false (sym h.first ∙ l))
only_sign b bs l d q (inr (inl h)) = absurd (true≢false (sym (number_head b bs h) ∙ d))
only_sign b bs l d q (inr (inr (inl h))) = absurd (true≢false (sym (decimal_head b bs h) ∙ d))
only_sign b bs l d q (inr (inr (inr (inl h)))) = absurd (true≢false (sym (eq-eqb b 39 (quoted_head b bs h)) ∙ q))
only_sign b bs l d q (inr (inr (inr (inr (inl h))))) = absurd (true≢false (sym (eq-eqb b 39 (open_head b bs h)) ∙ q))
only_sign b bs l d q (inr (inr (inr (inr (inr h))))) = h

-- the bytes taken first are a word or past their limit, and no longer front has a form
abbrev pub IsFormed : List ℕ → Word → ℕ → Type 0
IsFormed bs w n = (n ≤ length bs) × (IsWord (take n bs) w ⊎ ((w ≡ W.Bad) × IsPastLimit (take n bs))) × ((m : ℕ) → HasForm (take m bs) → length (take m bs) ≤ n)

abbrev pub IsFront : List ℕ → Word × ℕ → Type 0
IsFront bs x = IsFormed bs x.0 x.1 ⊎ ((x.0 ≡ W.Bad) × (x.1 ≡ 1) × IsFormless bs)

name_is : (run : List ℕ) → IsNameForm run → IsWord run (name_word run) ⊎ ((name_word run ≡ W.Bad) × IsPastLimit run)
name_is run f = here (look_up reserved run) refl
  where
    here : (r : Option Sign) → look_up reserved run ≡ r → IsWord run (short_name r (length run)) ⊎ ((short_name r (length run) ≡ W.Bad) × IsPastLimit run)
    here (Some s) e = inl (inl e)
    here None e = long (nat_le (length run) 64) refl
      where
        long : (x : Bool) → nat_le (length run) 64 ≡ x → IsWord run (if x then W.Name (length run) else W.Bad) ⊎ (((if x then W.Name (length run) else W.Bad) ≡ W.Bad) × IsPastLimit run)
        long true g = inl (record { form = f; size = refl; short = grind (arith, nat_tests); free = e })
        long false g = inr (refl, inl (f, grind (arith, nat_tests)))

number_is : (ds : List ℕ) → IsNumberForm ds → IsWord ds (number_word ds) ⊎ ((number_word ds ≡ W.Bad) × IsPastLimit ds)
number_is ds f = here (nat_le (decimal_from 0 ds) 9223372036854775807) refl
  where
    here : (x : Bool) → nat_le (decimal_from 0 ds) 9223372036854775807 ≡ x → IsWord ds (if x then W.Number (decimal_from 0 ds) else W.Bad) ⊎ (((if x then W.Number (decimal_from 0 ds) else W.Bad) ≡ W.Bad) × IsPastLimit ds)
    here true g = inl (record { form = f; spells = refl; fits = grind (arith, nat_tests) })
    here false g = inr (refl, inr (inl (f, grind (arith, nat_tests))))

name_goes : (b : ℕ) → is_letter b ≡ true → is_name_byte b ≡ true
name_goes b e = rw e refl

-- the run of a name
name_form : (b : ℕ) (bs : List ℕ) → is_letter b ≡ true → IsNameForm (take (prefix_len is_name_byte (b ∷ bs)) (b ∷ bs))
name_form b bs e = record { first = rw (get_or-take (prefix_len is_name_byte (b ∷ bs)) (b ∷ bs) 0 0 (run_some is_name_byte b bs (name_goes b e))) e; all = run_all is_name_byte (b ∷ bs) }

name_front : (b : ℕ) (bs : List ℕ) → is_letter b ≡ true → IsFormed (b ∷ bs) (name_word (take (name_length (b ∷ bs)) (b ∷ bs))) (name_length (b ∷ bs))
name_front b bs e =
    let n = prefix_len is_name_byte (b ∷ bs) in
    let p : n ≡ length (take n (b ∷ bs)) = sym (length-prefix_len is_name_byte (b ∷ bs)) in
    subst (λ k. IsFormed (b ∷ bs) (name_word (take k (b ∷ bs))) k) p
    (prefix_len-le-length is_name_byte (b ∷ bs), name_is (take n (b ∷ bs)) (name_form b bs e), fits)
  where
    fits : (m : ℕ) → HasForm (take m (b ∷ bs)) → length (take m (b ∷ bs)) ≤ prefix_len is_name_byte (b ∷ bs)
    fits zero h = omega arith
    fits (suc m) h = run_most is_name_byte (b ∷ bs) (suc m) (only_name b (take m bs) e h).all

-- the number or the decimal that stands first
numeric_formed : (b : ℕ) (bs : List ℕ) → is_digit b ≡ true → IsFormed (b ∷ bs) (numeric_front (b ∷ bs)).0 (numeric_front (b ∷ bs)).1
numeric_formed b bs e = here (fraction_length (drop (number_length (b ∷ bs)) (b ∷ bs))) refl (numbered b bs e)
  where
    longest : (m : ℕ) → Numbered (b ∷ bs) (number_length (b ∷ bs)) → HasForm (take m (b ∷ bs))
        → (length (take m (b ∷ bs)) ≤ number_length (b ∷ bs))
        ⊎ ((0 < fraction_length (drop (number_length (b ∷ bs)) (b ∷ bs))) × (length (take m (b ∷ bs)) ≤ suc (number_length (b ∷ bs)) + fraction_length (drop (number_length (b ∷ bs)) (b ∷ bs))))
    longest zero n h = inl (omega arith)
    longest (suc m) n h = elim (only_numeric b (take m bs) e h) [ inl f ↦ inl (n.2 (suc m) f) | inr f ↦ inr (decimal_fits (b ∷ bs) (suc m) f) ]

    none : (m f : ℕ) → f ≡ 0 → fraction_length (drop (number_length (b ∷ bs)) (b ∷ bs)) ≡ f → Numbered (b ∷ bs) (number_length (b ∷ bs)) → HasForm (take m (b ∷ bs)) → length (take m (b ∷ bs)) ≤ number_length (b ∷ bs)
    none m f z g n h = elim (longest m n h) [ inl l ↦ l | inr l ↦ absurd (let q = l.0 in omega arith) ]

    some : (m f : ℕ) → fraction_length (drop (number_length (b ∷ bs)) (b ∷ bs)) ≡ f → Numbered (b ∷ bs) (number_length (b ∷ bs)) → HasForm (take m (b ∷ bs)) → length (take m (b ∷ bs)) ≤ suc (number_length (b ∷ bs)) + f
    some m f g n h = elim (longest m n h) [ inl l ↦ omega arith | inr l ↦ let q = l.1 in omega arith ]

    here : (f : ℕ) → fraction_length (drop (number_length (b ∷ bs)) (b ∷ bs)) ≡ f → Numbered (b ∷ bs) (number_length (b ∷ bs))
        → IsFormed (b ∷ bs) (numeric_of (number_length (b ∷ bs)) f (b ∷ bs)).0 (numeric_of (number_length (b ∷ bs)) f (b ∷ bs)).1
    here zero g n = (n.0, number_is (take (number_length (b ∷ bs)) (b ∷ bs)) n.1, λ m h. none m 0 refl g n h)
    here (suc k) g n =
        let p = pointed (b ∷ bs) (number_length (b ∷ bs)) k n.0 g in
        (p.0, decimal_is _ _ _ p.1 n.1 p.2 p.3, λ m h. some m (suc k) g n h)

-- a front that is a text, with its end or without, is no longer than the one that is found
quoted_reaches : (b : ℕ) (bs : List ℕ) (m : ℕ) → IsQuotedForm (b ∷ take m bs) ⊎ IsOpenForm (b ∷ take m bs) → length (take m bs) ≤ (quoted_rest bs).1
quoted_reaches b bs m (inl h) =
    let q = h.quoted in
    let t : take m bs ≡ h.inner ++ 39 ∷ [] = cc in
    let w : bs ≡ h.inner ++ 39 ∷ drop m bs = sym (take-append-drop m bs) ∙ ap (λ z. z ++ drop m bs) t ∙ append_assoc h.inner (39 ∷ []) (drop m bs) in
    let l : length (take m bs) ≡ suc (length h.inner) = ap length t ∙ length-append h.inner (39 ∷ []) ∙ (omega arith) in
    let r : (quoted_rest bs).1 ≡ length h.inner + (quoted_rest (39 ∷ drop m bs)).1 = ap (λ z. (quoted_rest z).1) w ∙ ap (λ z. z.1) (inside_rest h.inner (39 ∷ drop m bs) h.inside) in
    let f = quote_first (drop m bs) in
    omega arith
quoted_reaches b bs m (inr h) =
    let q = h.opened in
    let t : take m bs ≡ h.inner = cc in
    let w : bs ≡ h.inner ++ drop m bs = sym (take-append-drop m bs) ∙ ap (λ z. z ++ drop m bs) t in
    let l : length (take m bs) ≡ length h.inner = ap length t in
    let r : (quoted_rest bs).1 ≡ length h.inner + (quoted_rest (drop m bs)).1 = ap (λ z. (quoted_rest z).1) w ∙ ap (λ z. z.1) (inside_rest h.inner (drop m bs) h.inside) in
    omega arith

quoted_formed : (b : ℕ) (bs : List ℕ) → (b == 39) ≡ true → IsFormed (b ∷ bs) (quoted_word (quoted_rest bs)).0 (quoted_word (quoted_rest bs)).1
quoted_formed b bs e = here (quoted_rest bs).0 (quoted_rest bs).1 (rests bs) (λ m h. quoted_reaches b bs m (only_quoted b (take m bs) (eqb-true b 39 e) h))
  where
    fits : (n m : ℕ) → ((m : ℕ) → HasForm (b ∷ take m bs) → length (take m bs) ≤ n) → HasForm (take m (b ∷ bs)) → length (take m (b ∷ bs)) ≤ suc n
    fits n zero g h = omega arith
    fits n (suc m) g h = let i : length (take m bs) ≤ n = g m h in omega arith

    here : (x : Bool) (n : ℕ) → Rests bs x n → ((m : ℕ) → HasForm (b ∷ take m bs) → length (take m bs) ≤ n) → IsFormed (b ∷ bs) (if x then W.Quoted (suc n) else W.Bad) (suc n)
    here true zero r g = absurd r
    here true (suc k) r g =
        let c = r.0 in
        let s : take (suc k) bs ≡ take k bs ++ 39 ∷ [] = rw (← r.1) (take-suc bs k 0 c) in
        let q : IsQuotedForm (b ∷ take (suc k) bs) = record { inner = take k bs; quoted = rw (eqb-true b 39 e, s) refl; inside = r.2 } in
        let l : length (take (suc k) bs) ≡ suc k = length-take-le (suc k) bs (omega arith) in
        (omega arith, inl (q, omega arith), λ m h. fits (suc k) m g h)
    here false n r g =
        let c = r.0 in
        let q : IsOpenForm (b ∷ take n bs) = record { inner = take n bs; opened = rw (eqb-true b 39 e) refl; inside = r.1 } in
        (omega arith, inr (refl, inr (inr (inr q))), λ m h. fits n m g h)

sign_front : (b : ℕ) (bs : List ℕ) → is_letter b ≡ false → is_digit b ≡ false → (b == 39) ≡ false → IsFront (b ∷ bs) (first_of_table signs (b ∷ bs))
sign_front b bs l d q = here (first_either signs (b ∷ bs))
  where
    longest : (m : ℕ) → HasForm (take m (b ∷ bs)) → (length (take m (b ∷ bs)) ≤ (first_of_table signs (b ∷ bs)).1) × ((first_of_table signs (b ∷ bs)).0 ≡ W.Bad → ⊥)
    longest zero h = absurd (no_empty h)
    longest (suc m) h = let t = only_sign b (take m bs) l d q h in first_longest signs (b ∷ bs) (suc m) t.sign refl t.found

    here : ((s : Sign) × (n : ℕ) × (first_of_table signs (b ∷ bs) ≡ (W.Fixed s, n))) ⊎ (first_of_table signs (b ∷ bs) ≡ (W.Bad, 1)) → IsFront (b ∷ bs) (first_of_table signs (b ∷ bs))
    here (inl (s, n, e)) = rw e (let t = first_found signs (b ∷ bs) s n e in inl (t.0, inl (inr t.1), λ m h. subst (λ y. length (take m (b ∷ bs)) ≤ y.1) e (longest m h).0))
    here (inr e) = rw e (inr (refl, refl, λ m h. (longest m h).1 (ap (λ y. y.0) e)))

pub front : (bs : List ℕ) → IsFront bs (front_of bs)
unfolding front_of
front [] = inr (refl, refl, none)
  where
    none : (m : ℕ) → HasForm (take m []) → ⊥
    none zero h = no_empty h
    none (suc m) h = no_empty h
front (b ∷ bs) = here (is_letter b) (is_digit b) (b == 39) refl refl refl
  where
    here : (x y z : Bool) → is_letter b ≡ x → is_digit b ≡ y → (b == 39) ≡ z → IsFront (b ∷ bs) (if x then (name_word (take (name_length (b ∷ bs)) (b ∷ bs)), name_length (b ∷ bs)) else if y then numeric_front (b ∷ bs) else if z then quoted_word (quoted_rest bs) else first_of_table signs (b ∷ bs))
    here true y z e f g = inl (name_front b bs e)
    here false true z e f g = inl (numeric_formed b bs f)
    here false false true e f g = inl (quoted_formed b bs g)
    here false false false e f g = sign_front b bs e f g
