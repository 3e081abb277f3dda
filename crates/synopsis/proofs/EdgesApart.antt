-- Edges of one instant that are apart.
use Rattle.std.specs.Prelude.{◌≡◌, ◌↔◌, ℕ, zero, suc, ◌+◌, ◌<◌, Bool, true, false, cond, not, ◌&&◌, ◌||◌, List, [], ◌∷◌, ◌++◌, flat_map, take, drop, replicate, length, get_or, refl}
use Rattle.std.specs.List.{list_all}
use Rattle.std.proofs.Common.{sym, ◌∙◌, ap, subst, arith}
use Rattle.std.proofs.lemmas.List.{append-nil, map-append, take_more}
use Rattle.std.proofs.lemmas.Grind.{flat_map-append}
use Rattle.tw_rows.specs.declared.cells.Datum.{Datum}
use Rattle.tw_rows.specs.declared.edge.Edge.{Edge}
use Rattle.tw_rows.specs.declared.edge.HeldRow.{HeldRow}
use Rattle.tw_rows.specs.SameCells.{same_cells}
use Rattle.edge_history.specs.Order.{failing, is_end}
use Rattle.edge_history.specs.Opens.{bare, ended_rows, started_rows}
use Rattle.key_nodes.specs.Coalesced.{how_often}
use Rattle.synopsis.specs.declared.moves.Moves.{Moves}
use Rattle.synopsis.specs.Kept.{ends_of, starts_of, AreOnce}
use Rattle.synopsis.specs.Holding.{may_follow, AreApart, move_of, moves_of}
use Rattle.synopsis.proofs.Counting.{nothing_more}
use Rattle.synopsis.proofs.Once.{either_way}

-- the edges from one on are apart, where those behind it are and may follow it
apart_more : (es : List Edge) (i : ℕ) (x d : Edge) → i < length es → x ≡ get_or es i d →
    list_all (may_follow x) (drop (suc i) es) ≡ true → AreApart (drop (suc i) es) → AreApart (drop i es)
apart_more [] i x d low is follow apart = absurd (omega (arith, low))
apart_more (e ∷ es) zero x d low is follow apart = (subst (λ y. list_all (may_follow y) es ≡ true) is follow, apart)
apart_more (e ∷ es) (suc i) x d low is follow apart = apart_more es i x d (omega (arith, low)) is follow apart

-- where the edges from one on are apart, those behind it are, and may follow it
apart_back : (es : List Edge) (i : ℕ) (x d : Edge) → i < length es → x ≡ get_or es i d → AreApart (drop i es) →
    (list_all (may_follow x) (drop (suc i) es) ≡ true) × AreApart (drop (suc i) es)
apart_back [] i x d low is apart = absurd (omega (arith, low))
apart_back (e ∷ es) zero x d low is apart = (subst (λ y. list_all (may_follow y) es ≡ true) (sym is) apart.0, apart.1)
apart_back (e ∷ es) (suc i) x d low is apart = apart_back es i x d (omega (arith, low)) is apart

-- whether the edges from one on are apart, by whether those behind it are and may follow it
pub apart_by : (es : List Edge) (i : ℕ) (x d : Edge) → i < length es → x ≡ get_or es i d →
    AreApart (drop i es) ↔ ((list_all (may_follow x) (drop (i + 1) es) ≡ true) × AreApart (drop (i + 1) es))
apart_by es i x d low is =
    let z : suc i ≡ i + 1 = omega arith in
    subst (λ k. AreApart (drop i es) ↔ ((list_all (may_follow x) (drop k es) ≡ true) × AreApart (drop k es))) z
    (apart_back es i x d low is, λ h. apart_more es i x d low is h.0 h.1)

both : (a b : Bool) → (a && b) ≡ true → (a ≡ true) × (b ≡ true)
both true b h = (refl, h)
both false b h = absurd (cc)

-- no row of theirs moves twice
others : (x : Edge) (es : List Edge) → list_all (may_follow x) es ≡ true → failing (λ (n : Moves). not (same_cells x.cells n.cells)) (moves_of es) ≡ 0
others x [] h = refl
others x (e ∷ es) h =
    let p = both (may_follow x e) (list_all (may_follow x) es) h in
    let q = both (not (same_cells x.cells e.cells)) (is_end x || not (is_end e)) p.0 in
    let a = ap (λ b. cond {A = ℕ} b 0 1) q.0 in
    let r = others x es p.1 in
    omega (arith, a, r)

pub apart_once : (es : List Edge) → AreApart es → AreOnce (moves_of es)
apart_once [] apart = tt
apart_once (x ∷ es) apart = (others x es apart.0, apart_once es apart.1)

-- before an end all are ends
pub ends_before : (es : List Edge) (i : ℕ) (x : Edge) → AreApart es → i < length es → x ≡ get_or es i x → is_end x ≡ true → failing is_end (take i es) ≡ 0
ends_before [] i x apart low is end = absurd (omega (arith, low))
ends_before (e ∷ es) zero x apart low is end = refl
ends_before (e ∷ es) (suc i) x apart low is end =
    let r = ends_before es i x apart.1 (omega (arith, low)) is end in
    let a = ap (λ b. cond {A = ℕ} b 0 1) (one es i apart.0 (omega (arith, low)) is) in
    omega (arith, a, r)
  where
    pick : (a b : Bool) → (a || not b) ≡ true → b ≡ true → a ≡ true
    pick true b h z = refl
    pick false true h z = absurd (cc)
    pick false false h z = absurd (cc)

    one : (fs : List Edge) (j : ℕ) → list_all (may_follow e) fs ≡ true → j < length fs → x ≡ get_or fs j x → is_end e ≡ true
    one [] j h low at = absurd (omega (arith, low))
    one (f ∷ fs) zero h low at =
        let p = both (may_follow e f) (list_all (may_follow e) fs) h in
        let q = both (not (same_cells e.cells f.cells)) (is_end e || not (is_end f)) p.0 in
        pick (is_end e) (is_end f) q.1 (sym (ap is_end at) ∙ end)
    one (f ∷ fs) (suc j) h low at =
        let p = both (may_follow e f) (list_all (may_follow e) fs) h in
        one fs j p.1 (omega (arith, low)) at

-- the move of an edge
pub move_at : (es : List Edge) (i : ℕ) (x : Edge) → i < length es → x ≡ get_or es i x → move_of x ≡ get_or (moves_of es) i (move_of x)
move_at [] i x low is = absurd (omega (arith, low))
move_at (e ∷ es) zero x low is = ap move_of is
move_at (e ∷ es) (suc i) x low is = move_at es i x (omega (arith, low)) is

pub moves_long : (es : List Edge) → length (moves_of es) ≡ length es
moves_long [] = refl
moves_long (e ∷ es) = let h = moves_long es in omega (arith, h)

-- what is open of a row, once one more edge moved its row
pub since_more : (b : Bool) (e s e2 s2 k n t : ℕ) (old now new : List ℕ) → now ≡ drop e old ++ replicate s t → (b ≡ true → (e ≡ 0) × (s ≡ 0)) →
    new ≡ cond b (drop k now ++ replicate n t) now → e2 ≡ e + cond b k 0 → s2 ≡ s + cond b n 0 → new ≡ drop e2 old ++ replicate s2 t
since_more true e s e2 s2 k n t old now new is none next ends starts =
    let z = none refl in
    let here : now ≡ old = is ∙ (ap (λ j. drop j old ++ replicate s t) z.0 ∙ (ap (λ j. old ++ replicate j t) z.1 ∙ append-nil old)) in
    let a : k ≡ e2 = omega (arith, ends, z) in
    let b : n ≡ s2 = omega (arith, starts, z) in
    next ∙ (ap (λ l. drop k l ++ replicate n t) here ∙ (ap (λ j. drop j old ++ replicate n t) a ∙ ap (λ j. drop e2 old ++ replicate j t) b))
since_more false e s e2 s2 k n t old now new is none next ends starts =
    let a : e ≡ e2 = omega (arith, ends) in
    let b : s ≡ s2 = omega (arith, starts) in
    next ∙ (is ∙ (ap (λ j. drop j old ++ replicate s t) a ∙ ap (λ j. drop e2 old ++ replicate j t) b))

-- a row that has not moved yet is open as it was
pub since_still : (e s t : ℕ) (old now : List ℕ) → now ≡ drop e old ++ replicate s t → e ≡ 0 → s ≡ 0 → now ≡ old
since_still e s t old now is ended started = is ∙ (ap (λ j. drop j old ++ replicate s t) ended ∙ (ap (λ j. old ++ replicate j t) started ∙ append-nil old))

-- the moves end the rows of the end edges, and start those of the others
pub ends_are : (es : List Edge) (c : List Datum) → ends_of (moves_of es) c ≡ how_often same_cells c (bare (ended_rows es))
ends_are [] c = refl
ends_are (x ∷ es) c = go (is_end x) (ends_are es c)
  where
    go : (b : Bool) → ends_of (moves_of es) c ≡ how_often same_cells c (bare (ended_rows es)) →
        cond (same_cells x.cells c) (cond b 1 0) 0 + ends_of (moves_of es) c ≡ how_often same_cells c (bare (cond b (record { cells = x.cells; start = x.other } ∷ []) [] ++ ended_rows es))
    go true h = let a = ap (λ d. cond {A = ℕ} d 1 0) (either_way x.cells c) in omega (arith, a, h)
    go false h = let a = nothing_more (same_cells x.cells c) in omega (arith, a, h)

pub starts_are : (es : List Edge) (c : List Datum) → starts_of (moves_of es) c ≡ how_often same_cells c (bare (started_rows es))
starts_are [] c = refl
starts_are (x ∷ es) c = go (is_end x) (starts_are es c)
  where
    go : (b : Bool) → starts_of (moves_of es) c ≡ how_often same_cells c (bare (started_rows es)) →
        cond (same_cells x.cells c) (cond b 0 1) 0 + starts_of (moves_of es) c ≡ how_often same_cells c (bare (cond b [] (record { cells = x.cells; start = x.sync } ∷ []) ++ started_rows es))
    go false h = let a = ap (λ d. cond {A = ℕ} d 1 0) (either_way x.cells c) in omega (arith, a, h)
    go true h = let a = nothing_more (same_cells x.cells c) in omega (arith, a, h)

-- the rows of one more edge
pub rows_more : (f : Edge → List HeldRow) (now : List Edge) (i : ℕ) (x : Edge) (old new : List (List Datum)) → i < length now → x ≡ get_or now i x →
    new ≡ old ++ bare (f x) → old ≡ bare (flat_map f (take i now)) → new ≡ bare (flat_map f (take (i + 1) now))
rows_more f now i x old new low is more so =
    more
    ∙ (ap (λ l. l ++ bare (f x)) so
    ∙ (sym (map-append (λ (r : HeldRow). r.cells) (flat_map f (take i now)) (f x))
    ∙ sym (ap (λ l. bare (flat_map f l)) (take_more now i x low ∙ ap (λ y. take i now ++ y ∷ []) (sym is))
    ∙ ap bare (flat_map-append f (take i now) (x ∷ []) ∙ ap (λ l. flat_map f (take i now) ++ l) (append-nil (f x))))))
