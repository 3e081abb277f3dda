-- The words behind the bytes of a word.
use Rattle.std.proofs.Common.{◌≡◌, ℕ, zero, suc, ◌+◌, ◌-◌, ◌<◌, ◌≤◌, true, false, List, [], ◌∷◌, ◌++◌, length, drop, get_or, refl, ap, sym, ◌∙◌, append_assoc, arith, drop-cons, length-drop, drop-drop, add-one, append-nil, take}
use Rattle.std.proofs.lemmas.List.{drop_all}
use Rattle.std.proofs.Math.Seq.{take-length}
use Rattle.query_text.specs.declared.word.Word.{Word}
use Rattle.query_text.specs.declared.word.Spot.{Spot}
use Rattle.query_text.specs.Words.{words_from, front_of, is_space}

pub words_skip : (at k : ℕ) (bs : List ℕ) → k ≤ length bs → words_from at k bs ≡ words_from (at + k) 0 (drop k bs)
unfolding words_from
words_skip at zero bs h = let e : at ≡ at + 0 = omega arith in ap (λ x. words_from x 0 bs) e
words_skip at (suc k) [] h = absurd (omega arith)
words_skip at (suc k) (b ∷ bs) h = words_skip (suc at) k bs (omega arith) ∙ (let e : suc at + k ≡ at + suc k = omega arith in ap (λ x. words_from x 0 (drop k bs)) e)

pub word_step : (at n : ℕ) (w : Word) (d : ℕ) (bs : List ℕ) → 0 < n → n ≤ length bs → front_of bs ≡ (w, n) → is_space (get_or bs 0 d) ≡ false
    → words_from at 0 bs ≡ record { at = at; word = w } ∷ words_from (at + n) 0 (drop n bs)
unfolding words_from
word_step at zero w d bs p h e s = absurd (omega arith)
word_step at (suc n) w d [] p h e s = absurd (omega arith)
word_step at (suc n) w d (b ∷ bs) p h e s = rw (s, e) (ap (λ x. record { at = at; word = w } ∷ x) (let f : suc n - 1 ≡ n = omega arith in ap (λ k. words_from (suc at) k bs) f ∙ words_skip (suc at) n bs (omega arith) ∙ (let g : suc at + n ≡ at + suc n = omega arith in ap (λ x. words_from x 0 (drop n bs)) g)))

-- a space is left out
pub space_at : (at : ℕ) (text : List ℕ) (d : ℕ) → at < length text → is_space (get_or text at d) ≡ true → words_from at 0 (drop at text) ≡ words_from (at + 1) 0 (drop (at + 1) text)
unfolding words_from
space_at at text d h s = rw (drop-cons text at d h, s, add-one at) refl

-- all the bytes from an offset on
pub rest_of : (at : ℕ) (text : List ℕ) → take (length text - at) (drop at text) ≡ drop at text
rest_of at text = rw (← length-drop at text) (take-length (drop at text))

-- the word at an offset, and those behind it
pub word_at : (at : ℕ) (x : Word × ℕ) (d : ℕ) (text : List ℕ) → at < length text → is_space (get_or text at d) ≡ false → x ≡ front_of (take (length text - at) (drop at text)) → 0 < x.1 → x.1 ≤ length (take (length text - at) (drop at text))
    → words_from at 0 (drop at text) ≡ record { at = at; word = x.0 } ∷ words_from (at + x.1) 0 (drop (at + x.1) text)
word_at at x d text h s e p q =
    let s' : is_space (get_or (drop at text) 0 d) ≡ false = rw (drop-cons text at d h) s in
    let e' : front_of (drop at text) ≡ x = sym (e ∙ ap front_of (rest_of at text)) in
    let q' : x.1 ≤ length (drop at text) = rw rest_of at q in
    word_step at x.1 x.0 d (drop at text) p q' e' s' ∙ ap (λ y. record { at = at; word = x.0 } ∷ words_from (at + x.1) 0 y) (drop-drop x.1 at text)

pub more_words : (xs ys zs us : List Spot) (x : Spot) → ys ≡ xs ++ x ∷ [] → us ≡ x ∷ zs → ys ++ zs ≡ xs ++ us
more_words xs ys zs us x e f = rw (e, f, append_assoc xs (x ∷ []) zs) refl

pub all_words : (at : ℕ) (text : List ℕ) (xs all : List Spot) → length text ≤ at → at ≤ length text → xs ++ words_from at 0 (drop at text) ≡ all → xs ≡ all
unfolding words_from
all_words at text xs all h k e =
    let g : drop at text ≡ [] = drop_all at text h in
    rw (← append-nil xs) (ap (λ z. xs ++ words_from at 0 z) (sym g) ∙ e)
