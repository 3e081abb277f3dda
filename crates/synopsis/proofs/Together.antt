-- A few rows in a list, those of a key side by side: what comes in and goes keeps them so, and which rows are those of a key.
use Rattle.std.specs.Prelude.{◌≡◌, ℕ, zero, suc, ◌+◌, ◌-◌, ◌<◌, Bool, true, false, List, [], ◌∷◌, ◌++◌, filter, map, length, take, drop, get_or, refl}
use Rattle.std.specs.List.{insert, remove, take-map, drop-map}
use Rattle.std.proofs.Common.{sym, ◌∙◌, ap, subst, arith, inl, inr}
use Rattle.std.proofs.Math.Seq.{drop-cons, take-length}
use Rattle.std.proofs.lemmas.List.{take_more, take-append-drop, length-map, length-drop, get_or-map, map-append}
use Rattle.std.proofs.lemmas.List.Elements.{filter-append}
use Rattle.std.proofs.lemmas.List.Sums.{sum_by-insert, sum_by-remove}
use Rattle.tw_rows.specs.Bag.{total}
use Rattle.tw_rows.specs.SameCells.{same_cells, cells_are_same, same_itself}
use Rattle.tw_rows.specs.declared.cells.Datum.{Datum}
use Rattle.tw_rows.specs.declared.edge.HeldRow.{HeldRow}
use Rattle.tw_rows.proofs.Bags.{total-is-sum_by}
use Rattle.tw_rows.specs.Words.{word_of_cells}
use Rattle.synopsis.specs.Held.{cell_or_zero, key_of, is_of_key}
use Rattle.synopsis.specs.Few.{same_key, key_word, NonePass, AllPass, IsOver, StandsHere, StandsFirst, AreTogether}

NonePass-append : (p : HeldRow → Bool) (xs ys : List HeldRow) → NonePass p xs → NonePass p ys → NonePass p (xs ++ ys)
NonePass-append p [] ys h k = k
NonePass-append p (x ∷ xs) ys h k = (h.0, NonePass-append p xs ys h.1 k)

AllPass-append : (p : HeldRow → Bool) (xs ys : List HeldRow) → AllPass p xs → AllPass p ys → AllPass p (xs ++ ys)
AllPass-append p [] ys h k = k
AllPass-append p (x ∷ xs) ys h k = (h.0, AllPass-append p xs ys h.1 k)

-- one row more that does not pass, and one that does
pub none_more : (p : HeldRow → Bool) (xs : List HeldRow) (i : ℕ) (d : HeldRow) → i < length xs → NonePass p (take i xs) → p (get_or xs i d) ≡ false → NonePass p (take (i + 1) xs)
none_more p xs i d low h e = subst (NonePass p) (sym (take_more xs i d low)) (NonePass-append p (take i xs) (get_or xs i d ∷ []) h (e, tt))

pub all_more : (p : HeldRow → Bool) (xs : List HeldRow) (i : ℕ) (d : HeldRow) → i < length xs → AllPass p (take i xs) → p (get_or xs i d) ≡ true → AllPass p (take (i + 1) xs)
all_more p xs i d low h e = subst (AllPass p) (sym (take_more xs i d low)) (AllPass-append p (take i xs) (get_or xs i d ∷ []) h (e, tt))

pub rest_all : (xs : List HeldRow) (i : ℕ) → take (length xs - i) (drop i xs) ≡ drop i xs
rest_all xs i = ap (λ n. take n (drop i xs)) (sym (length-drop i xs)) ∙ take-length (drop i xs)

none_filter : (p : HeldRow → Bool) (xs : List HeldRow) → NonePass p xs → filter p xs ≡ []
none_filter p [] h = refl
none_filter p (x ∷ xs) h = rw h.0 (none_filter p xs h.1)

abbrev no_rows : List HeldRow
no_rows = []

none_taken : (n : ℕ) → no_rows ≡ take n no_rows
none_taken zero = refl
none_taken (suc n) = refl

-- the test of the key of a row that passes another is that other
same_is : (columns : List ℕ) (key : List Datum) (r : HeldRow) → is_of_key columns key r ≡ true → same_key columns r ≡ is_of_key columns key
same_is columns key r h = ap (is_of_key columns) (cells_are_same (key_of columns r.cells) key h)

-- the rows of a key, from the first of them on
rest_rows : (columns : List ℕ) (key : List Datum) (r : HeldRow) (rs : List HeldRow) (n : ℕ) → is_of_key columns key r ≡ true → StandsFirst (same_key columns r) rs →
    AllPass (is_of_key columns key) (take n rs) → IsOver (is_of_key columns key) (drop n rs) → AreTogether columns rs → filter (is_of_key columns key) rs ≡ take n rs
rest_rows columns key r [] n h first all over together = none_taken n
rest_rows columns key r (x ∷ xs) zero h first all over together = over_by (subst (λ p. StandsFirst p (x ∷ xs)) (same_is columns key r h) first)
  where
    over_by : StandsFirst (is_of_key columns key) (x ∷ xs) → filter (is_of_key columns key) (x ∷ xs) ≡ []
    over_by (inl e) = absurd (cc)
    over_by (inr none) = none_filter (is_of_key columns key) (x ∷ xs) none
rest_rows columns key r (x ∷ xs) (suc n) h first all over together =
    rw all.0 (ap (λ l. x ∷ l) (rest_rows columns key x xs n all.0 together.0 all.1 over together.1))

found_rows : (columns : List ℕ) (key : List Datum) (rs : List HeldRow) (n : ℕ) → StandsHere (is_of_key columns key) rs → AllPass (is_of_key columns key) (take n rs) →
    IsOver (is_of_key columns key) (drop n rs) → AreTogether columns rs → filter (is_of_key columns key) rs ≡ take n rs
found_rows columns key [] n here all over together = none_taken n
found_rows columns key (x ∷ xs) zero here all over together = absurd (cc)
found_rows columns key (x ∷ xs) (suc n) here all over together = rw here (ap (λ l. x ∷ l) (rest_rows columns key x xs n here together.0 all.1 over together.1))

together_behind : (columns : List ℕ) (n : ℕ) (rs : List HeldRow) → AreTogether columns rs → AreTogether columns (drop n rs)
together_behind columns zero rs h = h
together_behind columns (suc n) [] h = h
together_behind columns (suc n) (r ∷ rs) h = together_behind columns n rs h.1

pub rows_of_key : (columns : List ℕ) (key : List Datum) (rs : List HeldRow) (a n : ℕ) → NonePass (is_of_key columns key) (take a rs) → StandsHere (is_of_key columns key) (drop a rs) →
    AllPass (is_of_key columns key) (take n (drop a rs)) → IsOver (is_of_key columns key) (drop n (drop a rs)) → AreTogether columns rs → take n (drop a rs) ≡ filter (is_of_key columns key) rs
rows_of_key columns key rs a n before here all over together =
    let p = is_of_key columns key in
    sym (ap (filter p) (sym (take-append-drop a rs)) ∙ filter-append p (take a rs) (drop a rs) ∙ ap (λ l. l ++ filter p (drop a rs)) (none_filter p (take a rs) before)
    ∙ found_rows columns key (drop a rs) n here all over (together_behind columns a rs together))

-- whoever has not the data of a key fails its test, and whoever has them passes it
pub not_same : (columns : List ℕ) (key : List Datum) (r : HeldRow) → (key_of columns r.cells ≡ key → ⊥) → is_of_key columns key r ≡ false
not_same columns key r h = by (is_of_key columns key r) refl
  where
    by : (b : Bool) → is_of_key columns key r ≡ b → is_of_key columns key r ≡ false
    by false e = e
    by true e = absurd (h (cells_are_same (key_of columns r.cells) key e))

pub is_same : (columns : List ℕ) (key : List Datum) (r : HeldRow) → key_of columns r.cells ≡ key → is_of_key columns key r ≡ true
is_same columns key r e = ap (λ l. same_cells l key) e ∙ same_itself key

-- keys of two words differ
pub words_apart : (columns : List ℕ) (key : List Datum) (r : HeldRow) (own word : ℕ) → own ≡ key_word columns r → word ≡ word_of_cells key → (own ≡ word → ⊥) → is_of_key columns key r ≡ false
words_apart columns key r own word own_is word_is h = not_same columns key r (λ e. h (own_is ∙ ap word_of_cells e ∙ sym word_is))

-- one column more of a key
pub column_more : (columns : List ℕ) (key cells : List Datum) (i c : ℕ) (d : Datum) → i < length columns → i < length key → take i (key_of columns cells) ≡ take i key →
    cell_or_zero cells (get_or columns i c) ≡ get_or key i d → take (i + 1) (key_of columns cells) ≡ take (i + 1) key
column_more columns key cells i c d low within h e =
    let all = key_of columns cells in
    let long : i < length all = omega (arith, low, length-map columns (cell_or_zero cells)) in
    take_more all i d long ∙ ap (λ l. l ++ get_or all i d ∷ []) h ∙ ap (λ x. take i key ++ x ∷ []) (get_or-map (cell_or_zero cells) columns i c d low ∙ e) ∙ sym (take_more key i d within)

pub columns_differ : (columns : List ℕ) (key : List Datum) (r : HeldRow) (i c : ℕ) (d : Datum) → i < length columns → (cell_or_zero r.cells (get_or columns i c) ≡ get_or key i d → ⊥) → is_of_key columns key r ≡ false
columns_differ columns key r i c d low h = not_same columns key r (λ e. h (sym (get_or-map (cell_or_zero r.cells) columns i c d low) ∙ ap (λ l. get_or l i d) e))

pub lengths_differ : (columns : List ℕ) (key : List Datum) (r : HeldRow) → (length columns ≡ length key → ⊥) → is_of_key columns key r ≡ false
lengths_differ columns key r h = not_same columns key r (λ e. h (sym (length-map columns (cell_or_zero r.cells)) ∙ ap (λ l. length l) e))

pub all_columns : (columns : List ℕ) (key : List Datum) (r : HeldRow) (n : ℕ) → length columns ≡ length key → n ≡ length columns → take n (key_of columns r.cells) ≡ take n key → is_of_key columns key r ≡ true
all_columns columns key r n same all h =
    let own = key_of columns r.cells in
    let long : n ≡ length own = omega (arith, all, length-map columns (cell_or_zero r.cells)) in
    let key_long : n ≡ length key = omega (arith, all, same) in
    is_same columns key r (sym (take-length own) ∙ ap (λ k. take k own) (sym long) ∙ h ∙ ap (λ k. take k key) key_long ∙ take-length key)

-- beside each row stands the word of its key
pub marked_put : (columns : List ℕ) (rows : List HeldRow) (words : List ℕ) (i word : ℕ) (r : HeldRow) → words ≡ map (key_word columns) rows → word ≡ key_word columns r →
    insert words i word ≡ map (key_word columns) (insert rows i r)
marked_put columns rows words i word r e is =
    let f = key_word columns in
    ap (λ l. insert l i word) e ∙ ap (λ x. insert (map f rows) i x) is
    ∙ sym (map-append f (take i rows) (r ∷ drop i rows) ∙ ap (λ l. l ++ f r ∷ map f (drop i rows)) (sym (take-map f i rows)) ∙ ap (λ l. take i (map f rows) ++ f r ∷ l) (sym (drop-map f i rows)))

pub marked_taken : (columns : List ℕ) (rows : List HeldRow) (words : List ℕ) (i : ℕ) → words ≡ map (key_word columns) rows → remove words i ≡ map (key_word columns) (remove rows i)
marked_taken columns rows words i e =
    let f = key_word columns in
    ap (λ l. remove l i) e ∙ sym (map-append f (take i rows) (drop (suc i) rows) ∙ ap (λ l. l ++ map f (drop (suc i) rows)) (sym (take-map f i rows)) ∙ ap (λ l. take i (map f rows) ++ l) (sym (drop-map f (suc i) rows)))

-- a row comes in in front of the first of its key
pub none_insert : (p : HeldRow → Bool) (xs ys : List HeldRow) (r : HeldRow) → NonePass p (xs ++ ys) → p r ≡ false → NonePass p (xs ++ r ∷ ys)
none_insert p [] ys r h e = (e, h)
none_insert p (x ∷ xs) ys r h e = (h.0, none_insert p xs ys r h.1 e)

-- whoever passes one of two tests of different keys fails the other
differs : (columns : List ℕ) (key : List Datum) (x r : HeldRow) → is_of_key columns key x ≡ false → is_of_key columns key r ≡ true → same_key columns x r ≡ false
differs columns key x r other own = by (same_key columns x r) refl
  where
    by : (b : Bool) → same_key columns x r ≡ b → same_key columns x r ≡ false
    by false e = e
    by true e =
        let rx = cells_are_same (key_of columns r.cells) (key_of columns x.cells) e in
        let rk = cells_are_same (key_of columns r.cells) key own in
        let xk : is_of_key columns key x ≡ true = ap (λ l. same_cells l key) (sym rx) ∙ own in
        absurd (cc)

insert_first : (columns : List ℕ) (key : List Datum) (x r : HeldRow) (xs ys : List HeldRow) → is_of_key columns key x ≡ false → is_of_key columns key r ≡ true → StandsHere (is_of_key columns key) ys →
    StandsFirst (same_key columns x) (xs ++ ys) → StandsFirst (same_key columns x) (xs ++ r ∷ ys)
insert_first columns key x r [] [] other own here first = inr (differs columns key x r other own, tt)
insert_first columns key x r [] (y ∷ ys) other own here (inl e) = absurd (let f = differs columns key x y other here in cc)
insert_first columns key x r [] (y ∷ ys) other own here (inr none) = inr (differs columns key x r other own, none)
insert_first columns key x r (z ∷ zs) ys other own here (inl e) = inl e
insert_first columns key x r (z ∷ zs) ys other own here (inr none) = inr (none_insert (same_key columns x) (z ∷ zs) ys r none (differs columns key x r other own))

own_first : (columns : List ℕ) (key : List Datum) (r : HeldRow) (ys : List HeldRow) → is_of_key columns key r ≡ true → StandsHere (is_of_key columns key) ys → StandsFirst (same_key columns r) ys
own_first columns key r [] own here = tt
own_first columns key r (y ∷ ys) own here = inl (ap (λ (p : HeldRow → Bool). p y) (same_is columns key r own) ∙ here)

together_insert : (columns : List ℕ) (key : List Datum) (r : HeldRow) (xs ys : List HeldRow) → is_of_key columns key r ≡ true → NonePass (is_of_key columns key) xs → StandsHere (is_of_key columns key) ys →
    AreTogether columns (xs ++ ys) → AreTogether columns (xs ++ r ∷ ys)
together_insert columns key r [] ys own before here h = (own_first columns key r ys own here, h)
together_insert columns key r (x ∷ xs) ys own before here h = (insert_first columns key x r xs ys before.0 own here h.0, together_insert columns key r xs ys own before.1 here h.1)

pub together_put : (columns : List ℕ) (key : List Datum) (r : HeldRow) (rs : List HeldRow) (i : ℕ) → is_of_key columns key r ≡ true → NonePass (is_of_key columns key) (take i rs) →
    StandsHere (is_of_key columns key) (drop i rs) → AreTogether columns rs → AreTogether columns (insert rs i r)
together_put columns key r rs i own before here h = together_insert columns key r (take i rs) (drop i rs) own before here (subst (AreTogether columns) (sym (take-append-drop i rs)) h)

pub put_weighs : (w : HeldRow → ℕ) (rs : List HeldRow) (i : ℕ) (r : HeldRow) → total w (insert rs i r) ≡ total w rs + w r
put_weighs w rs i r =
    let a = sum_by-insert w rs i r in
    let b = total-is-sum_by w (insert rs i r) in
    let e = total-is-sum_by w rs in
    omega (arith, a, b, e)

-- a row goes
pub none_remove : (p : HeldRow → Bool) (xs ys : List HeldRow) (r : HeldRow) → NonePass p (xs ++ r ∷ ys) → NonePass p (xs ++ ys)
none_remove p [] ys r h = h.1
none_remove p (x ∷ xs) ys r h = (h.0, none_remove p xs ys r h.1)

remove_first : (columns : List ℕ) (x r : HeldRow) (xs ys : List HeldRow) → StandsFirst (same_key columns x) (xs ++ r ∷ ys) → AreTogether columns (xs ++ r ∷ ys) → StandsFirst (same_key columns x) (xs ++ ys)
remove_first columns x r [] [] first h = tt
remove_first columns x r [] (y ∷ ys) (inl e) h = subst (λ p. StandsFirst p (y ∷ ys)) (same_is columns (key_of columns x.cells) r e) h.0
remove_first columns x r [] (y ∷ ys) (inr none) h = inr none.1
remove_first columns x r (z ∷ zs) ys (inl e) h = inl e
remove_first columns x r (z ∷ zs) ys (inr none) h = inr (none_remove (same_key columns x) (z ∷ zs) ys r none)

pub together_remove : (columns : List ℕ) (r : HeldRow) (xs ys : List HeldRow) → AreTogether columns (xs ++ r ∷ ys) → AreTogether columns (xs ++ ys)
together_remove columns r [] ys h = h.1
together_remove columns r (x ∷ xs) ys h = (remove_first columns x r xs ys h.0 h.1, together_remove columns r xs ys h.1)

pub cut_at : (rs : List HeldRow) (i : ℕ) (d : HeldRow) → i < length rs → take i rs ++ get_or rs i d ∷ drop (suc i) rs ≡ rs
cut_at rs i d low = ap (λ l. take i rs ++ l) (sym (drop-cons rs i d low)) ∙ take-append-drop i rs

pub together_taken : (columns : List ℕ) (rs : List HeldRow) (i : ℕ) (d : HeldRow) → i < length rs → AreTogether columns rs → AreTogether columns (remove rs i)
together_taken columns rs i d low h = together_remove columns (get_or rs i d) (take i rs) (drop (suc i) rs) (subst (AreTogether columns) (sym (cut_at rs i d low)) h)

pub taken_weighs : (w : HeldRow → ℕ) (rs : List HeldRow) (i : ℕ) (d : HeldRow) → i < length rs → total w rs ≡ total w (remove rs i) + w (get_or rs i d)
taken_weighs w rs i d low =
    let a = sum_by-remove w rs i d low in
    let b = total-is-sum_by w (remove rs i) in
    let e = total-is-sum_by w rs in
    omega (arith, a, b, e)
