-- Each word of a text has its form.
use Rattle.std.proofs.Common.{◌≡◌, ℕ, zero, suc, ◌+◌, ◌-◌, ◌<◌, ◌≤◌, Bool, true, false, ◌&&◌, nat_le, if◌then◌else◌, Option, Some, None, List, [], ◌∷◌, length, take, drop, get_or, refl, ap, sym, subst, ◌∙◌, arith, All, IsUtf8, IsCharBoundary, length-drop, length-take-le, get_or-drop, drop-drop, cond, get_or-take, lit<}
use Rattle.std.specs.Bool.{◌==◌}
use Rattle.std.specs.List.{prefix_len, list_all}
use Rattle.std.proofs.lemmas.Bool.{eqb-true}
use Rattle.std.proofs.lemmas.Bool.Decides.{nat_tests}
use Rattle.std.proofs.lemmas.List.Elements.{All-cons, All-nil}
use Rattle.std.proofs.lemmas.List.Folds.{length-prefix_len}
use Rattle.std.proofs.lemmas.List.Sums.{prefix_len-le-length, AllPass-from_list_all}
use Rattle.std.proofs.lemmas.Str.{IsCharBoundary-before_ascii, IsCharBoundary-after_ascii, IsUtf8-between}
use Rattle.query_text.specs.declared.word.Sign.{Sign}
use Rattle.query_text.specs.declared.word.Word.{Word}
use Rattle.query_text.specs.declared.word.Word.TheVariants as W
use Rattle.query_text.specs.Words.{is_space, is_letter, is_digit, is_name_byte, short_name, name_word, name_length, number_word, number_length, fraction_length, decimal_word, decimal_from, numeric_of, numeric_front, quoted_rest, quoted_word, first_of_table, signs, reserved, look_up, front_of, words_from, words_of}
use Rattle.query_text.specs.Spots.{IsNameAt, IsSpotAt, IsSpotIn, IsCutAt, IsSpotCutAt, IsSpotCut, is_inside}
use Rattle.query_text.proofs.Inside.{Rests, rests}
use Rattle.query_text.proofs.Numeric.{run_all}

-- the run of a name that is no reserved word
name_holds : (bs : List ℕ) (n : ℕ) (r : Option Sign) → 0 < length bs → 0 < n → n ≤ length bs → list_all is_name_byte (take n bs) ≡ true → IsSpotAt bs 0 (short_name r n)
name_holds bs n (Some s) l h k e = l
name_holds bs n None l h k e = here (nat_le n 64) refl
  where
    here : (x : Bool) → nat_le n 64 ≡ x → IsSpotAt bs 0 (if x then W.Name n else W.Bad)
    here true f = record { some = h; short = grind (arith, nat_tests); within = omega arith; bytes = e }
    here false f = l

number_holds : (bs ds : List ℕ) → 0 < length bs → IsSpotAt bs 0 (number_word ds)
number_holds bs ds l = here (nat_le (decimal_from 0 ds) 9223372036854775807) refl
  where
    here : (x : Bool) → nat_le (decimal_from 0 ds) 9223372036854775807 ≡ x → IsSpotAt bs 0 (if x then W.Number (decimal_from 0 ds) else W.Bad)
    here true f = (l, grind (arith, nat_tests))
    here false f = l

decimal_holds : (bs ds fs : List ℕ) → 0 < length bs → IsSpotAt bs 0 (decimal_word ds fs)
decimal_holds bs ds fs l = here (nat_le (length fs) 18) (nat_le (decimal_from (decimal_from 0 ds) fs) 9223372036854775807) refl refl
  where
    here : (x y : Bool) → nat_le (length fs) 18 ≡ x → nat_le (decimal_from (decimal_from 0 ds) fs) 9223372036854775807 ≡ y → IsSpotAt bs 0 (if x && y then W.Decimal (decimal_from (decimal_from 0 ds) fs) (length fs) else W.Bad)
    here true true e f = (l, grind (arith, nat_tests), grind (arith, nat_tests))
    here true false e f = l
    here false y e f = l

numeric_holds : (bs : List ℕ) (n f : ℕ) → 0 < length bs → IsSpotAt bs 0 (numeric_of n f bs).0
numeric_holds bs n zero l = number_holds bs (take n bs) l
numeric_holds bs n (suc f) l = decimal_holds bs (take n bs) (take (suc f) (drop (suc n) bs)) l

quoted_holds : (b : ℕ) (bs : List ℕ) (x : Bool) (n : ℕ) → (b == 39) ≡ true → Rests bs x n → IsSpotAt (b ∷ bs) 0 (if x then W.Quoted (suc n) else W.Bad)
quoted_holds b bs false n e h = omega arith
quoted_holds b bs true zero e h = absurd h
quoted_holds b bs true (suc k) e h =
    let c = h.0 in
    let last : 0 + suc (suc k) - 1 ≡ suc k = omega arith in
    let inner : suc (suc k) - 2 ≡ k = omega arith in
    record { both = omega arith; within = omega arith; opens = eqb-true b 39 e; closes = rw last h.1; inside = rw inner h.2 }

sign_holds : (table : List (List ℕ × Sign)) (bs : List ℕ) → 0 < length bs → IsSpotAt bs 0 (first_of_table table bs).0
sign_holds [] bs l = l
sign_holds (x ∷ xs) bs l = here _ (sign_holds xs bs l)
  where
    here : (b : Bool) → IsSpotAt bs 0 (first_of_table xs bs).0 → IsSpotAt bs 0 (if b then (W.Fixed x.1, length x.0) else first_of_table xs bs).0
    here true h = l
    here false h = h

letter_run : (b : ℕ) (bs : List ℕ) → is_letter b ≡ true → 0 < prefix_len is_name_byte (b ∷ bs)
letter_run b bs e = here (is_name_byte b) (rw e refl)
  where
    here : (x : Bool) → x ≡ true → 0 < cond x (1 + prefix_len is_name_byte bs) 0
    here true f = omega arith
    here false f = cc

name_front : (b : ℕ) (bs : List ℕ) → is_letter b ≡ true → IsSpotAt (b ∷ bs) 0 (name_word (take (name_length (b ∷ bs)) (b ∷ bs)))
name_front b bs e =
    let n = prefix_len is_name_byte (b ∷ bs) in
    let p : length (take n (b ∷ bs)) ≡ n = length-prefix_len is_name_byte (b ∷ bs) in
    let run = take (name_length (b ∷ bs)) (b ∷ bs) in
    let q : length run ≡ n = rw (p, p) refl in
    subst (λ m. IsSpotAt (b ∷ bs) 0 (short_name (look_up reserved run) m)) (sym q)
    (name_holds (b ∷ bs) n (look_up reserved run) (omega arith) (letter_run b bs e) (prefix_len-le-length is_name_byte (b ∷ bs)) (run_all is_name_byte (b ∷ bs)))

-- the word that stands first has its form
front_holds : (b : ℕ) (bs : List ℕ) → IsSpotAt (b ∷ bs) 0 (front_of (b ∷ bs)).0
unfolding front_of
front_holds b bs = here (is_letter b) (is_digit b) (b == 39) refl refl
  where
    here : (x y z : Bool) → is_letter b ≡ x → (b == 39) ≡ z → IsSpotAt (b ∷ bs) 0 (if x then (name_word (take (name_length (b ∷ bs)) (b ∷ bs)), name_length (b ∷ bs)) else if y then numeric_front (b ∷ bs) else if z then quoted_word (quoted_rest bs) else first_of_table signs (b ∷ bs)).0
    here true y z e f = name_front b bs e
    here false true z e f = numeric_holds (b ∷ bs) (number_length (b ∷ bs)) (fraction_length (drop (number_length (b ∷ bs)) (b ∷ bs))) (omega arith)
    here false false true e f = quoted_holds b bs (quoted_rest bs).0 (quoted_rest bs).1 f (rests bs)
    here false false false e f = sign_holds signs (b ∷ bs) (omega arith)

-- a word of what is left of the text stands in the text
shifted : (text : List ℕ) (at : ℕ) (w : Word) → at ≤ length text → IsSpotAt (drop at text) 0 w → IsSpotAt text at w
shifted text at (W.Name n) l h = record { some = h.some; short = h.short; within = omega (arith, h.within, length-drop at text); bytes = h.bytes }
shifted text at (W.Number n) l h = (omega (arith, h.0, length-drop at text), h.1)
shifted text at (W.Decimal u p) l h = (omega (arith, h.0, length-drop at text), h.1, h.2)
shifted text at (W.Quoted n) l h = record {
  both = h.both;
  within = omega (arith, h.within, length-drop at text);
  opens = (let e : at + 0 ≡ at = omega arith in ap (λ k. get_or text k 0) (sym e) ∙ sym (get_or-drop at text 0 0) ∙ h.opens);
  closes = (let b = h.both in let e : at + (0 + n - 1) ≡ at + n - 1 = omega arith in ap (λ k. get_or text k 0) (sym e) ∙ sym (get_or-drop at text (0 + n - 1) 0) ∙ h.closes);
  inside = ap (λ z. is_inside (take (n - 2) z)) (sym (drop-drop 1 at text)) ∙ h.inside;
}
shifted text at (W.Fixed s) l h = omega (arith, h, length-drop at text)
shifted text at W.Bad l h = omega (arith, h, length-drop at text)

next_drop : (text : List ℕ) (at b : ℕ) (bs : List ℕ) → drop at text ≡ b ∷ bs → (suc at ≤ length text) × (drop (suc at) text ≡ bs)
next_drop text at b bs e = (omega (arith, ap length e, length-drop at text), (let f : suc at ≡ at + 1 = omega arith in ap (λ k. drop k text) f ∙ sym (drop-drop 1 at text) ∙ ap (drop 1) e))

spots_from : (text : List ℕ) (at skip : ℕ) (bs : List ℕ) → at ≤ length text → drop at text ≡ bs → All (IsSpotIn text) (words_from at skip bs)
unfolding words_from
spots_from text at skip [] l e = All-nil (IsSpotIn text)
spots_from text at (suc skip) (b ∷ bs) l e = let n = next_drop text at b bs e in spots_from text (suc at) skip bs n.0 n.1
spots_from text at zero (b ∷ bs) l e = let n = next_drop text at b bs e in here (is_space b) (spots_from text (suc at) 0 bs n.0 n.1) (spots_from text (suc at) ((front_of (b ∷ bs)).1 - 1) bs n.0 n.1)
  where
    here : (x : Bool) → All (IsSpotIn text) (words_from (suc at) 0 bs) → All (IsSpotIn text) (words_from (suc at) ((front_of (b ∷ bs)).1 - 1) bs)
        → All (IsSpotIn text) (if x then words_from (suc at) 0 bs else record { at = at; word = (front_of (b ∷ bs)).0 } ∷ words_from (suc at) ((front_of (b ∷ bs)).1 - 1) bs)
    here true h k = h
    here false h k = All-cons (IsSpotIn text) (record { at = at; word = (front_of (b ∷ bs)).0 }) _ (shifted text at (front_of (b ∷ bs)).0 l (subst (λ z. IsSpotAt z 0 (front_of (b ∷ bs)).0) (sym e) (front_holds b bs))) k

pub spots : (text : List ℕ) → All (IsSpotIn text) (words_of text)
spots text = spots_from text 0 0 text (omega arith) refl

name_bytes : (text : List ℕ) (at n k : ℕ) → IsNameAt text at n → k < n → is_name_byte (get_or text (at + k) 0) ≡ true
name_bytes text at n k h l =
    let w = h.within in
    let long : k < length (take n (drop at text)) = rw (length-take-le n (drop at text) (omega (arith, length-drop at text))) l in
    ap is_name_byte (sym (get_or-drop at text k 0) ∙ sym (get_or-take n (drop at text) k 0 l)) ∙ AllPass-from_list_all is_name_byte (take n (drop at text)) h.bytes k 0 long

pub name_ascii : (b : ℕ) → is_name_byte b ≡ true → b < 128
name_ascii b e = grind (arith, nat_tests)

between : (text : List ℕ) (at n : ℕ) → IsUtf8 text → IsCutAt text at n → IsUtf8 (take n (drop at text))
between text at n u c = let e : at + n - at ≡ n = omega arith in subst (λ k. IsUtf8 (take k (drop at text))) e (IsUtf8-between text at (at + n) u (omega arith) c.0 c.1)

behind : (text : List ℕ) (i j : ℕ) → IsUtf8 text → i < length text → get_or text i 0 < 128 → j ≡ i + 1 → IsCharBoundary text j
behind text i j u l a e = rw e (IsCharBoundary-after_ascii text i u l a)

cut_of : (text : List ℕ) (at : ℕ) (w : Word) → IsUtf8 text → IsSpotAt text at w → IsSpotCutAt text at w
cut_of text at (W.Name n) u h =
    let s = h.some in
    let w = h.within in
    let first : get_or text at 0 < 128 = (let z : at + 0 ≡ at = omega arith in subst (λ k. get_or text k 0 < 128) z (name_ascii _ (name_bytes text at n 0 h (omega arith)))) in
    let last : get_or text (at + (n - 1)) 0 < 128 = name_ascii _ (name_bytes text at n (n - 1) h (omega arith)) in
    let c : IsCutAt text at n = (IsCharBoundary-before_ascii text at (omega arith) first, behind text (at + (n - 1)) (at + n) u (omega arith) last (omega arith)) in
    (c, between text at n u c)
cut_of text at (W.Quoted n) u h =
    let b = h.both in
    let w = h.within in
    let last : get_or text (at + 1 + (n - 2)) 0 ≡ 39 = (let z : at + 1 + (n - 2) ≡ at + n - 1 = omega arith in rw z h.closes) in
    let c : IsCutAt text (at + 1) (n - 2) = (behind text at (at + 1) u (omega arith) (rw h.opens (lit< tt)) refl, IsCharBoundary-before_ascii text (at + 1 + (n - 2)) (omega arith) (rw last (lit< tt))) in
    (c, between text (at + 1) (n - 2) u c)
cut_of text at (W.Number n) u h = tt
cut_of text at (W.Decimal n p) u h = tt
cut_of text at (W.Fixed s) u h = tt
cut_of text at W.Bad u h = tt

pub spots_cut : (text : List ℕ) → IsUtf8 text → All (IsSpotCut text) (words_of text)
spots_cut text u = λ k d h. cut_of text (get_or (words_of text) k d).at (get_or (words_of text) k d).word u (spots text k d h)
