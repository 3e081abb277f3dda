-- Each token of a text has its form.
use Rattle.std.proofs.Common.{◌≡◌, ◌≢◌, ℕ, suc, ◌+◌, ◌-◌, ◌<◌, Bool, true, false, ◌&&◌, if◌then◌else◌, List, [], ◌∷◌, ◌++◌, length, take, drop, get_or, refl, sym, subst, arith, All, IsUtf8, append_assoc, length-append, length-drop, length-take-le, lit<}
use Rattle.std.specs.Bool.{◌==◌}
use Rattle.std.proofs.lemmas.Bool.{eqb-true}
use Rattle.std.proofs.lemmas.List.Elements.{All-cons, All-nil, All-map}
use Rattle.std.proofs.lemmas.List.Sums.{AllPass-from_list_all}
use Rattle.std.proofs.lemmas.Str.{IsCharBoundary-before_ascii, IsCharBoundary-after_ascii, IsUtf8-take, IsUtf8-drop, IsUtf8-append, IsUtf8-from_ascii}
use Rattle.std.proofs.lemmas.Str.Ascii.{IsAscii-from_all}
use Rattle.std.proofs.Math.Seq.{take-append_seam, get_or-append_seam}
use Rattle.query_text.specs.declared.word.Word.{Word}
use Rattle.query_text.specs.declared.word.Word.TheVariants as W
use Rattle.query_text.specs.Words.{words_of, is_name_byte}
use Rattle.query_text.specs.Spots.{is_plain, is_inside, IsNameAt, IsSpotAt, IsSpotCutAt}
use Rattle.query_text.proofs.Spots.{spots, spots_cut, name_ascii}
use Rattle.query_text.specs.Token.{unquoted, token_at, token_of, tokens_of}
use Rattle.query_text.specs.TokenForm.{IsNameText, IsSound}

drop_seam : (xs ys : List ℕ) (b : ℕ) → drop (length xs + 1) (xs ++ b ∷ ys) ≡ ys
drop_seam [] ys b = refl
drop_seam (x ∷ xs) ys b = let e : suc (length xs) + 1 ≡ suc (length xs + 1) = omega arith in rw e (drop_seam xs ys b)

-- around a byte of ASCII the text may be cut
around : (xs ys : List ℕ) (b : ℕ) → b < 128 → IsUtf8 (xs ++ b ∷ ys) → IsUtf8 xs × IsUtf8 ys
around xs ys b a u =
    let l : length xs < length (xs ++ b ∷ ys) = omega (arith, length-append xs (b ∷ ys)) in
    let low : get_or (xs ++ b ∷ ys) (length xs) 0 < 128 = rw (get_or-append_seam xs b ys 0) a in (
      subst IsUtf8 (take-append_seam xs (b ∷ ys)) (IsUtf8-take (xs ++ b ∷ ys) (length xs) u (IsCharBoundary-before_ascii (xs ++ b ∷ ys) (length xs) l low)),
      subst IsUtf8 (drop_seam xs ys b) (IsUtf8-drop (xs ++ b ∷ ys) (length xs + 1) u (IsCharBoundary-after_ascii (xs ++ b ∷ ys) (length xs) u l low)),
    )

both : (x y : Bool) → (x && y) ≡ true → (x ≡ true) × (y ≡ true)
both true y e = (refl, e)
both false y e = cc

quote_utf8 : IsUtf8 (39 ∷ [])
quote_utf8 = IsUtf8-from_ascii (39 ∷ []) (IsAscii-from_all (39 ∷ []) (All-cons (λ b. b < 128) 39 [] (lit< tt) (All-nil (λ b. b < 128))))

-- what a text in quotes spells is UTF-8 too
unquoted_utf8 : (xs bs : List ℕ) → IsUtf8 (xs ++ bs) → is_inside bs ≡ true → IsUtf8 (xs ++ unquoted bs)
unfolding is_inside
unquoted_utf8 xs [] u e = u
unquoted_utf8 xs (b ∷ []) u e = u
unquoted_utf8 xs (b ∷ c ∷ bs) u e = here (b == 39) refl e (λ v. unquoted_utf8 [] bs v) (λ v. unquoted_utf8 (xs ++ b ∷ []) (c ∷ bs) v)
  where
    here : (x : Bool) → (b == 39) ≡ x → (if x then c == 39 && is_inside bs else is_plain b && is_inside (c ∷ bs)) ≡ true
        → (IsUtf8 bs → is_inside bs ≡ true → IsUtf8 (unquoted bs)) → (IsUtf8 ((xs ++ b ∷ []) ++ c ∷ bs) → is_inside (c ∷ bs) ≡ true → IsUtf8 ((xs ++ b ∷ []) ++ unquoted (c ∷ bs)))
        → IsUtf8 (xs ++ (if x then 39 ∷ unquoted bs else b ∷ unquoted (c ∷ bs)))
    here true f g h k =
        let p = both (c == 39) (is_inside bs) g in
        let low : b < 128 = rw (eqb-true b 39 f) (lit< tt) in
        let low' : c < 128 = rw (eqb-true c 39 p.0) (lit< tt) in
        let one = around xs (c ∷ bs) b low u in
        IsUtf8-append xs (39 ∷ unquoted bs) one.0 (IsUtf8-append (39 ∷ []) (unquoted bs) quote_utf8 (h (around [] bs c low' one.1).1 p.1))
    here false f g h k = subst IsUtf8 (append_assoc xs (b ∷ []) (unquoted (c ∷ bs))) (k (subst IsUtf8 (sym (append_assoc xs (b ∷ []) (c ∷ bs))) u) (both (is_plain b) (is_inside (c ∷ bs)) g).1)

abbrev IsLineByte : ℕ → Type 0
IsLineByte b = (b ≢ 10) × (b ≢ 13)

plain_line : (b : ℕ) → is_plain b ≡ true → IsLineByte b
plain_line b e = (λ f. let g : is_plain 10 ≡ true = subst (λ x. is_plain x ≡ true) f e in cc, λ f. let g : is_plain 13 ≡ true = subst (λ x. is_plain x ≡ true) f e in cc)

-- and holds no LF and no CR
unquoted_line : (bs : List ℕ) → is_inside bs ≡ true → All IsLineByte (unquoted bs)
unfolding is_inside
unquoted_line [] e = All-nil IsLineByte
unquoted_line (b ∷ []) e = All-cons IsLineByte b [] (plain_line b e) (All-nil IsLineByte)
unquoted_line (b ∷ c ∷ bs) e = here (b == 39) e (unquoted_line bs) (unquoted_line (c ∷ bs))
  where
    here : (x : Bool) → (if x then c == 39 && is_inside bs else is_plain b && is_inside (c ∷ bs)) ≡ true → (is_inside bs ≡ true → All IsLineByte (unquoted bs)) → (is_inside (c ∷ bs) ≡ true → All IsLineByte (unquoted (c ∷ bs)))
        → All IsLineByte (if x then 39 ∷ unquoted bs else b ∷ unquoted (c ∷ bs))
    here true g h k = All-cons IsLineByte 39 (unquoted bs) (λ f. cc, λ f. cc) (h (both (c == 39) (is_inside bs) g).1)
    here false g h k = let p = both (is_plain b) (is_inside (c ∷ bs)) g in All-cons IsLineByte b (unquoted (c ∷ bs)) (plain_line b p.0) (k p.1)

name_text : (text : List ℕ) (at n : ℕ) → IsNameAt text at n → IsNameText (take n (drop at text))
name_text text at n h =
    let l : length (take n (drop at text)) ≡ n = length-take-le n (drop at text) (let w = h.within in omega (arith, length-drop at text)) in
    record {
      some = rw l h.some;
      short = rw l h.short;
      ascii = IsAscii-from_all (take n (drop at text)) (λ k d i. name_ascii (get_or (take n (drop at text)) k d) (AllPass-from_list_all is_name_byte (take n (drop at text)) h.bytes k d i));
    }

sound_at : (text : List ℕ) (at : ℕ) (w : Word) → IsSpotAt text at w → IsSpotCutAt text at w → IsSound (token_at text at w)
sound_at text at (W.Name n) h c = name_text text at n h
sound_at text at (W.Number n) h c = h.1
sound_at text at (W.Decimal u p) h c = (h.1, h.2)
sound_at text at (W.Quoted n) h c = record { utf8 = unquoted_utf8 [] (take (n - 2) (drop (at + 1) text)) c.1 h.inside; line = unquoted_line (take (n - 2) (drop (at + 1) text)) h.inside }
sound_at text at (W.Fixed s) h c = tt
sound_at text at W.Bad h c = tt

pub tokens_sound : (text : List ℕ) → IsUtf8 text → All IsSound (tokens_of text)
tokens_sound text u = All-map IsSound (token_of text) (words_of text) (λ k d i. sound_at text (get_or (words_of text) k d).at (get_or (words_of text) k d).word (spots text k d i) (spots_cut text u k d i))
