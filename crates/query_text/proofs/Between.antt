-- A text falls into its words and into no others.
use Rattle.std.proofs.Common.{◌≡◌, ℕ, zero, suc, ◌+◌, ◌-◌, ◌<◌, ◌≤◌, Bool, true, false, if◌then◌else◌, List, [], ◌∷◌, length, take, drop, get_or, inl, inr, refl, ap, sym, subst, ◌∙◌, arith, length-drop, get_or-drop}
use Rattle.std.specs.List.{list_all}
use Rattle.std.proofs.lemmas.Bool.{and_parts}
use Rattle.query_text.specs.declared.word.Word.{Word}
use Rattle.query_text.specs.declared.word.Spot.{Spot}
use Rattle.query_text.specs.Words.{is_space, front_of, words_from, words_of}
use Rattle.query_text.specs.Between.{FallsInto}
use Rattle.query_text.proofs.Forms.{IsFront, front, no_empty}
use Rattle.query_text.proofs.Taken.{front_taken, only_taken, held_form}
use Rattle.query_text.proofs.Skips.{word_step}

front_fits : (b : ℕ) (bs : List ℕ) → (0 < (front_of (b ∷ bs)).1) × ((front_of (b ∷ bs)).1 ≤ suc (length bs))
front_fits b bs = here (front_of (b ∷ bs)) (front (b ∷ bs))
  where
    here : (x : Word × ℕ) → IsFront (b ∷ bs) x → (0 < x.1) × (x.1 ≤ suc (length bs))
    here (w, zero) (inl f) = absurd (no_empty (held_form [] w f.1))
    here (w, suc n) (inl f) = (omega arith, f.0)
    here (w, n) (inr f) = let e = f.1 in (omega arith, omega arith)

more_space : (at b : ℕ) (bs : List ℕ) (spots : List Spot) → is_space b ≡ true → FallsInto (suc at) bs spots → FallsInto at (b ∷ bs) spots
more_space at b bs [] e h = rw e h
more_space at b bs (spot ∷ spots) e (k, n, l, s, f, p, t, r) =
    let q : suc at + k ≡ at + suc k = omega arith in
    let i : suc at + k + n ≡ at + suc k + n = omega arith in
    (suc k, n, omega arith, rw e s, f, p ∙ q, t, subst (λ m. FallsInto m (drop n (drop k bs)) spots) i r)

behind : (at b n : ℕ) (bs : List ℕ) (spots : List Spot) → 0 < n → FallsInto (suc at + (n - 1)) (drop (n - 1) bs) spots → FallsInto (at + 0 + n) (drop n (b ∷ bs)) spots
behind at b zero bs spots l h = absurd (omega arith)
behind at b (suc n) bs spots l h =
    let e : suc n - 1 ≡ n = omega arith in
    let i : suc at + (suc n - 1) ≡ at + 0 + suc n = omega arith in
    subst (λ m. FallsInto m (drop n bs) spots) i (subst (λ m. FallsInto (suc at + (suc n - 1)) (drop m bs) spots) e h)

falls_from : (at skip : ℕ) (bs : List ℕ) → skip ≤ length bs → FallsInto (at + skip) (drop skip bs) (words_from at skip bs)
unfolding words_from
falls_from at zero [] l = refl
falls_from at (suc skip) [] l = absurd (omega arith)
falls_from at (suc skip) (b ∷ bs) l = let e : suc at + skip ≡ at + suc skip = omega arith in subst (λ m. FallsInto m (drop skip bs) (words_from (suc at) skip bs)) e (falls_from (suc at) skip bs (omega arith))
falls_from at zero (b ∷ bs) l =
    let z : at ≡ at + 0 = omega arith in
    let o : suc at + 0 ≡ suc at = omega arith in
    let n = (front_of (b ∷ bs)).1 in
    let i = front_fits b bs in
    subst (λ m. FallsInto m (b ∷ bs) (words_from at 0 (b ∷ bs))) z
    (here (is_space b) refl (subst (λ m. FallsInto m bs (words_from (suc at) 0 bs)) o (falls_from (suc at) 0 bs (omega arith)))
    (behind at b n bs (words_from (suc at) (n - 1) bs) i.0 (falls_from (suc at) (n - 1) bs (omega arith))))
  where
    here : (x : Bool) → is_space b ≡ x → FallsInto (suc at) bs (words_from (suc at) 0 bs) → FallsInto (at + 0 + (front_of (b ∷ bs)).1) (drop (front_of (b ∷ bs)).1 (b ∷ bs)) (words_from (suc at) ((front_of (b ∷ bs)).1 - 1) bs)
        → FallsInto at (b ∷ bs) (if x then words_from (suc at) 0 bs else record { at = at; word = (front_of (b ∷ bs)).0 } ∷ words_from (suc at) ((front_of (b ∷ bs)).1 - 1) bs)
    here true e h k = more_space at b bs (words_from (suc at) 0 bs) e h
    here false e h k = (0, (front_of (b ∷ bs)).1, omega arith, refl, e, omega arith, front_taken (b ∷ bs), k)

pub falls : (text : List ℕ) → FallsInto 0 text (words_of text)
falls text = falls_from 0 0 text (omega arith)

no_words : (at : ℕ) (bs : List ℕ) → list_all is_space bs ≡ true → [] ≡ words_from at 0 bs
unfolding words_from
no_words at [] h = refl
no_words at (b ∷ bs) h = let q = and_parts (is_space b) (list_all is_space bs) h in rw q.0 (no_words (suc at) bs q.1)

spaces_skip : (at k : ℕ) (bs : List ℕ) → k < length bs → list_all is_space (take k bs) ≡ true → words_from at 0 bs ≡ words_from (at + k) 0 (drop k bs)
unfolding words_from
spaces_skip at zero bs l h = let e : at ≡ at + 0 = omega arith in ap (λ m. words_from m 0 bs) e
spaces_skip at (suc k) [] l h = absurd (omega arith)
spaces_skip at (suc k) (b ∷ bs) l h =
    let q = and_parts (is_space b) (list_all is_space (take k bs)) h in
    let e : suc at + k ≡ at + suc k = omega arith in
    rw q.0 (spaces_skip (suc at) k bs (omega arith) q.1 ∙ ap (λ m. words_from m 0 (drop k bs)) e)

some_fits : (bs : List ℕ) → 0 < length bs → (0 < (front_of bs).1) × ((front_of bs).1 ≤ length bs)
some_fits [] l = absurd (omega arith)
some_fits (b ∷ bs) l = front_fits b bs

only_from : (at : ℕ) (bs : List ℕ) (spots : List Spot) → FallsInto at bs spots → spots ≡ words_from at 0 bs
only_from at bs [] h = no_words at bs h
only_from at bs (spot ∷ spots) (k, n, l, s, f, p, t, r) =
    let e : ◌≡◌ {A = Word × ℕ} (spot.word, n) (front_of (drop k bs)) = only_taken (drop k bs) (spot.word, n) t in
    let i = some_fits (drop k bs) (omega (arith, length-drop k bs)) in
    let m : n ≡ (front_of (drop k bs)).1 = ap (λ x. x.1) e in
    let z : k + 0 ≡ k = omega arith in
    let g : is_space (get_or (drop k bs) 0 0) ≡ false = rw (get_or-drop k bs 0 0, z) f in
    ap (λ a. record { at = a; word = spot.word } ∷ spots) p ∙ ap (λ y. record { at = at + k; word = spot.word } ∷ y) (only_from (at + k + n) (drop n (drop k bs)) spots r)
    ∙ sym (word_step (at + k) n spot.word 0 (drop k bs) (omega arith) (omega arith) (sym e) g) ∙ sym (spaces_skip at k bs l s)

pub only_falls : (text : List ℕ) (spots : List Spot) → FallsInto 0 text spots → spots ≡ words_of text
only_falls text spots h = only_from 0 text spots h
