-- The last row of a few takes the place of one that goes: the rows of each key still stand side by side.
use Rattle.std.specs.Prelude.{◌≡◌, ◌≢◌, ℕ, zero, suc, ◌+◌, ◌-◌, ◌<◌, ◌⊎◌, Bool, false, List, [], ◌∷◌, ◌++◌, map, length, take, drop, set, get_or, refl}
use Rattle.std.specs.List.{swap_remove, take-map}
use Rattle.std.proofs.Common.{sym, ◌∙◌, ap, subst, arith, inl, inr}
use Rattle.std.proofs.Math.Seq.{take-length, take-append_seam}
use Rattle.std.proofs.lemmas.List.{take_more, length-take-le, length-map, length-set, get_or-map, get_or-take, append-nil, map-set, set_split, set-append_left}
use Rattle.tw_rows.specs.SameCells.{same_cells, cells_are_same}
use Rattle.tw_rows.specs.declared.edge.HeldRow.{HeldRow}
use Rattle.synopsis.specs.Held.{key_of}
use Rattle.synopsis.specs.Few.{same_key, key_word, NonePass, IsOver, StandsFirst, AreTogether, MayFill}
use Rattle.synopsis.proofs.Together.{cut_at, is_same, none_insert, none_remove, not_same, together_remove, words_apart}

-- two rows have two keys, whichever is asked for
apart : (columns : List ℕ) (x z : HeldRow) → same_key columns z x ≡ false → same_key columns x z ≡ false
apart columns x z h = not_same columns (key_of columns x.cells) z (λ e. let k = is_same columns (key_of columns z.cells) x (sym e) in cc)

-- where the last of some rows has another key than the row behind them, so has each of them
last_apart : (columns : List ℕ) (xs : List HeldRow) (z d : HeldRow) → AreTogether columns (xs ++ z ∷ []) → ((k : ℕ) → length xs ≡ suc k → same_key columns z (get_or xs k d) ≡ false) →
    NonePass (same_key columns z) xs
last_apart columns [] z d h other = tt
last_apart columns (x ∷ []) z d h other = (other 0 refl, tt)
last_apart columns (x ∷ y ∷ ys) z d h other = let behind = last_apart columns (y ∷ ys) z d h.1 (λ k e. other (suc k) (ap suc e)) in (here behind h.0, behind)
  where
    last_of : (p : HeldRow → Bool) (l : List HeldRow) → NonePass p (l ++ z ∷ []) → p z ≡ false
    last_of p [] none = none.0
    last_of p (a ∷ l) none = last_of p l none.1

    here : NonePass (same_key columns z) (y ∷ ys) → StandsFirst (same_key columns x) (y ∷ ys ++ z ∷ []) → same_key columns z x ≡ false
    here behind (inl e) = ap (λ l. same_cells l (key_of columns z.cells)) (sym (cells_are_same (key_of columns y.cells) (key_of columns x.cells) e)) ∙ behind.0
    here behind (inr none) = apart columns z x (last_of (same_key columns x) (y ∷ ys) none)

-- the last of some rows and the first of others have two keys, where there are both
abbrev IsBorder : List ℕ → List HeldRow → List HeldRow → Type 0
IsBorder columns [] ys = Unit {0}
IsBorder columns (x ∷ []) ys = IsOver (same_key columns x) ys
IsBorder columns (x ∷ y ∷ xs) ys = IsBorder columns (y ∷ xs) ys

border_at : (columns : List ℕ) (rs : List HeldRow) (i : ℕ) (d : HeldRow) → ((k : ℕ) → i ≡ suc k → same_key columns (get_or rs k d) (get_or rs (suc (suc k)) d) ≡ false) →
    IsBorder columns (take i rs) (drop (suc i) rs)
border_at columns rs zero d h = tt
border_at columns [] (suc i) d h = tt
border_at columns (r ∷ []) (suc zero) d h = tt
border_at columns (r ∷ a ∷ []) (suc zero) d h = tt
border_at columns (r ∷ a ∷ b ∷ rs) (suc zero) d h = h 0 refl
border_at columns (r ∷ []) (suc (suc i)) d h = tt
border_at columns (r ∷ a ∷ rs) (suc (suc i)) d h = border_at columns (a ∷ rs) (suc i) d (λ k e. h (suc k) (ap suc e))

-- a row of a key that no other row has comes in between two keys
all_apart : (columns : List ℕ) (x z : HeldRow) (ys : List HeldRow) → IsOver (same_key columns x) ys → StandsFirst (same_key columns x) ys → NonePass (same_key columns x) ys
all_apart columns x z [] over first = tt
all_apart columns x z (y ∷ ys) over (inl e) = absurd (cc)
all_apart columns x z (y ∷ ys) over (inr none) = none

none_first : (columns : List ℕ) (z : HeldRow) (ys : List HeldRow) → NonePass (same_key columns z) ys → StandsFirst (same_key columns z) ys
none_first columns z [] none = tt
none_first columns z (y ∷ ys) none = inr none

fills_first : (columns : List ℕ) (x z : HeldRow) (xs ys : List HeldRow) → same_key columns x z ≡ false → IsBorder columns (x ∷ xs) ys → StandsFirst (same_key columns x) (xs ++ ys) →
    StandsFirst (same_key columns x) (xs ++ z ∷ ys)
fills_first columns x z [] ys other border first = inr (other, all_apart columns x z ys border first)
fills_first columns x z (a ∷ xs) ys other border (inl e) = inl e
fills_first columns x z (a ∷ xs) ys other border (inr none) = inr (none_insert (same_key columns x) (a ∷ xs) ys z none other)

border_behind : (columns : List ℕ) (x : HeldRow) (xs ys : List HeldRow) → IsBorder columns (x ∷ xs) ys → IsBorder columns xs ys
border_behind columns x [] ys h = tt
border_behind columns x (a ∷ xs) ys h = h

fills : (columns : List ℕ) (z : HeldRow) (xs ys : List HeldRow) → NonePass (same_key columns z) (xs ++ ys) → IsBorder columns xs ys → AreTogether columns (xs ++ ys) → AreTogether columns (xs ++ z ∷ ys)
fills columns z [] ys none border h = (none_first columns z ys none, h)
fills columns z (x ∷ xs) ys none border h =
    (fills_first columns x z xs ys (apart columns x z none.0) border h.0, fills columns z xs ys none.1 (border_behind columns x xs ys border) h.1)

-- some items are those before the last one and it, and it is what comes in where one goes
front_of : {X : Type 0} (xs : List X) (n : ℕ) (d : X) → length xs ≡ suc n → xs ≡ take n xs ++ get_or xs n d ∷ []
front_of xs n d long =
    let all : n + 1 ≡ length xs = omega (arith, long) in
    sym (ap (λ k. take k xs) all ∙ take-length xs) ∙ take_more xs n d (omega (arith, long))

swapped : {X : Type 0} (xs : List X) (i n : ℕ) (d : X) → length xs ≡ suc n → i < n → swap_remove xs i d ≡ set (take n xs) i (get_or xs n d)
swapped xs i n d long low =
    let front = take n xs in
    let z = get_or xs n d in
    let last : length xs - 1 ≡ n = omega (arith, long) in
    let split = front_of xs n d long in
    let size : length front ≡ n = length-take-le n xs (omega (arith, long)) in
    let into : set xs i z ≡ set front i z ++ z ∷ [] = ap (λ l. set l i z) split ∙ set-append_left front (z ∷ []) i z (omega (arith, size, low)) in
    ap (λ k. take k (set xs i (get_or xs k d))) last ∙ ap (take n) into
    ∙ ap (λ k. take k (set front i z ++ z ∷ [])) (sym (length-set front i z ∙ size)) ∙ take-append_seam (set front i z) (z ∷ [])

filled : (columns : List ℕ) (rows : List HeldRow) (i n : ℕ) (d : HeldRow) → length rows ≡ suc n → i + 1 < n → AreTogether columns rows →
    ((k : ℕ) → n ≡ suc k → same_key columns (get_or rows n d) (get_or rows k d) ≡ false) →
    ((k : ℕ) → i ≡ suc k → same_key columns (get_or rows k d) (get_or rows (suc (suc k)) d) ≡ false) → AreTogether columns (swap_remove rows i d)
filled columns rows i n d long low together alone border =
    let front = take n rows in
    let z = get_or rows n d in
    let size : length front ≡ n = length-take-le n rows (omega (arith, long)) in
    let less : i < n = omega (arith, low) in
    let within : i < length front = omega (arith, size, low) in
    let all : AreTogether columns (front ++ z ∷ []) = subst (AreTogether columns) (front_of rows n d long) together in
    let before : AreTogether columns front = subst (AreTogether columns) (append-nil front) (together_remove columns z front [] all) in
    let x = get_or front i d in
    let xs = take i front in
    let ys = drop (suc i) front in
    let cut = cut_at front i d within in
    let rest : AreTogether columns (xs ++ ys) = together_remove columns x xs ys (subst (AreTogether columns) (sym cut) before) in
    let none : NonePass (same_key columns z) front = last_apart columns front z d all (λ k e.
    ap (same_key columns z) (get_or-take n rows k d (omega (arith, e, size))) ∙ alone k (sym size ∙ e)) in
    let none_rest : NonePass (same_key columns z) (xs ++ ys) = none_remove (same_key columns z) xs ys x (subst (NonePass (same_key columns z)) (sym cut) none) in
    let between : IsBorder columns xs ys = border_at columns front i d (λ k e.
    ap (λ r. same_key columns r (get_or front (suc (suc k)) d)) (get_or-take n rows k d (omega (arith, e, low)))
    ∙ ap (same_key columns (get_or rows k d)) (get_or-take n rows (suc (suc k)) d (omega (arith, e, low))) ∙ border k e) in
    subst (AreTogether columns) (sym (swapped rows i n d long less ∙ set_split front i z within)) (fills columns z xs ys none_rest between rest)

-- as the words tell
words_tell : (columns : List ℕ) (rows : List HeldRow) (words : List ℕ) (j k : ℕ) (d : HeldRow) → words ≡ map (key_word columns) rows → j < length rows → k < length rows →
    (get_or words j 0 ≡ get_or words k 0 → ⊥) → same_key columns (get_or rows k d) (get_or rows j d) ≡ false
words_tell columns rows words j k d marked low_j low_k differ =
    let f = key_word columns in
    words_apart columns (key_of columns (get_or rows k d).cells) (get_or rows j d) (get_or words j 0) (get_or words k 0)
    (ap (λ l. get_or l j 0) marked ∙ get_or-map f rows j d 0 low_j) (ap (λ l. get_or l k 0) marked ∙ get_or-map f rows k d 0 low_k) differ

pub together_filled : (columns : List ℕ) (rows : List HeldRow) (words : List ℕ) (i : ℕ) (d : HeldRow) → words ≡ map (key_word columns) rows → MayFill words i → AreTogether columns rows →
    AreTogether columns (swap_remove rows i d)
together_filled columns rows words i d marked may together =
    let size : length words ≡ length rows = ap (λ l. length l) marked ∙ length-map rows (key_word columns) in
    let n : ℕ = length rows - 1 in
    let long : length rows ≡ suc n = omega (arith, size, may.before_last) in
    let low : i + 1 < n = omega (arith, size, may.before_last) in
    filled columns rows i n d long low together
    (λ k e. words_tell columns rows words k n d marked (omega (arith, e, long)) (omega (arith, long)) (λ same. may.alone (last_two k e same)))
    (λ k e. words_tell columns rows words (suc (suc k)) k d marked (omega (arith, e, low)) (omega (arith, e, low)) (λ same. beside k e may.border same))
  where
    last_two : (k : ℕ) → length rows - 1 ≡ suc k → get_or words k 0 ≡ get_or words (length rows - 1) 0 → get_or words (length words - 2) 0 ≡ get_or words (length words - 1) 0
    last_two k e same =
        let size : length words ≡ length rows = ap (λ l. length l) marked ∙ length-map rows (key_word columns) in
        let a : length words - 2 ≡ k = omega (arith, size, e) in
        let b : length rows - 1 ≡ length words - 1 = omega (arith, size) in
        ap (λ j. get_or words j 0) a ∙ same ∙ ap (λ j. get_or words j 0) b

    beside : (k : ℕ) → i ≡ suc k → (i ≡ 0) ⊎ (get_or words (i - 1) 0 ≢ get_or words (i + 1) 0) → get_or words (suc (suc k)) 0 ≡ get_or words k 0 → ⊥
    beside k e (inl first) same = omega (arith, e, first)
    beside k e (inr differ) same =
        let a : i - 1 ≡ k = omega (arith, e) in
        let b : suc (suc k) ≡ i + 1 = omega (arith, e) in
        differ (ap (λ j. get_or words j 0) a ∙ sym same ∙ ap (λ j. get_or words j 0) b)

-- the words go with the rows
pub marked_filled : (columns : List ℕ) (rows : List HeldRow) (words : List ℕ) (i word : ℕ) (d : HeldRow) → i < length rows → words ≡ map (key_word columns) rows →
    swap_remove words i word ≡ map (key_word columns) (swap_remove rows i d)
marked_filled columns rows words i word d low marked =
    let f = key_word columns in
    let last : ℕ = length rows - 1 in
    let short : length (map f rows) - 1 ≡ last = ap (λ k. k - 1) (length-map rows f) in
    ap (λ l. swap_remove l i word) marked ∙ ap (λ k. take k (set (map f rows) i (get_or (map f rows) k word))) short
    ∙ ap (λ w. take last (set (map f rows) i w)) (get_or-map f rows last d word (omega (arith, low)))
    ∙ ap (take last) (sym (map-set f rows i (get_or rows last d))) ∙ take-map f last (set rows i (get_or rows last d))
