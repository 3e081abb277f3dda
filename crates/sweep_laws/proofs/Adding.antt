-- Edges that are added to an answer, and rows that change edge by edge.
use Rattle.std.specs.Prelude.{◌≡◌, ℕ, ◌+◌, ◌<◌, ◌≤◌, true, false, cond, List, [], ◌∷◌, ◌++◌, length, get_or, take, map, flat_map, refl}
use Rattle.std.proofs.Common.{sym, ◌∙◌, ap, arith, append_assoc}
use Rattle.std.proofs.lemmas.Bool.{eq-eqb, and_from}
use Rattle.tw_rows.specs.Bag.{SameBag, total}
use Rattle.tw_rows.specs.SameCells.{same_itself}
use Rattle.tw_rows.specs.declared.edge.Edge.{Edge}
use Rattle.tw_rows.specs.declared.edge.HeldRow.{HeldRow}
use Rattle.tw_rows.proofs.Bags.{total-append, total-map, total-flat_map, SameBag-refl, SameBag-trans, SameBag-append}
use Rattle.tw_rows.proofs.Fronts.{total_more, total_part}
use Rattle.edge_history.specs.Order.{is_end}
use Rattle.edge_history.specs.Opens.{ended_of, started_of, ended_rows, started_rows, is_held}
use Rattle.sweep_laws.specs.Moves.{Adds, told_at, HoldsEnded}

pub append_none : (es : List Edge) → es ++ [] ≡ es
append_none [] = refl
append_none (e ∷ es) = ap (λ l. e ∷ l) (append_none es)

pub adds_none : (a : List Edge) → Adds a a []
adds_none a = record { added = []; is = sym (append_none a); bag = SameBag-refl [] }

pub adds_then : (a b c xs ys : List Edge) → Adds a b xs → Adds b c ys → Adds a c (xs ++ ys)
adds_then a b c xs ys h k = record {
  added = h.added ++ k.added;
  is = k.is ∙ ap (λ l. l ++ k.added) h.is ∙ append_assoc a h.added k.added;
  bag = SameBag-append _ _ _ _ h.bag k.bag;
}

pub adds_bag : (a b xs ys : List Edge) → Adds a b xs → SameBag xs ys → Adds a b ys
adds_bag a b xs ys h s = record { added = h.added; is = h.is; bag = SameBag-trans _ _ _ h.bag s }

pub adds_weigh : (w : Edge → ℕ) (a b xs : List Edge) → Adds a b xs → total w b ≡ total w a + total w xs
adds_weigh w a b xs h = ap (total w) h.is ∙ total-append w a h.added ∙ ap (λ n. total w a + n) (h.bag.weigh w)

-- a row that an end edge takes out
pub ended_itself : (x : Edge) → is_end x ≡ true → total (λ r. cond {A = ℕ} (is_held x.cells x.other r) 1 0) (ended_of x) ≡ 1
ended_itself x e =
    let z : is_held x.cells x.other (record { cells = x.cells; start = x.other }) ≡ true = and_from _ _ (eq-eqb x.other x.other refl) (same_itself x.cells) in
    ap (λ b. total (λ (r : HeldRow). cond {A = ℕ} (is_held x.cells x.other r) 1 0) (cond b (record { cells = x.cells; start = x.other } ∷ []) [])) e
    ∙ ap (λ b. cond {A = ℕ} b 1 0 + 0) z

pub moved_more : (now : List Edge) (i : ℕ) (x : Edge) (rows0 rows1 rows2 : List HeldRow) → i < length now → x ≡ get_or now i x →
    (HoldsEnded x rows1 → (w : HeldRow → ℕ) → total w rows2 + total w (ended_of x) ≡ total w rows1 + total w (started_of x)) →
    (((w : HeldRow → ℕ) → total w (ended_rows now) ≤ total w rows0) → (w : HeldRow → ℕ) → total w rows1 + total w (ended_rows (take i now)) ≡ total w rows0 + total w (started_rows (take i now))) →
    ((w : HeldRow → ℕ) → total w (ended_rows now) ≤ total w rows0) → (w : HeldRow → ℕ) →
    total w rows2 + total w (ended_rows (take (i + 1) now)) ≡ total w rows0 + total w (started_rows (take (i + 1) now))
moved_more now i x rows0 rows1 rows2 low is one before fit w =
    let e1 = total-flat_map w ended_of (take (i + 1) now) in
    let e2 = total-flat_map w ended_of (take i now) in
    let s1 = total-flat_map w started_of (take (i + 1) now) in
    let s2 = total-flat_map w started_of (take i now) in
    let e3 = total_more (λ y. total w (ended_of y)) now i x low in
    let s3 = total_more (λ y. total w (started_of y)) now i x low in
    let e4 = ap (λ y. total w (ended_of y)) is in
    let s4 = ap (λ y. total w (started_of y)) is in
    let b = before fit w in
    let o = one held w in
    omega (arith, e1, e2, s1, s2, e3, s3, e4, s4, b, o)
  where
    held : HoldsEnded x rows1
    held end =
        let d : HeldRow → ℕ = λ r. cond (is_held x.cells x.other r) 1 0 in
        let f = fit d in
        let b = before fit d in
        let p = total_part (λ y. total d (ended_of y)) now i x low in
        let q = ap (λ y. total d (ended_of y)) is in
        let z = ended_itself x end in
        let e1 = total-flat_map d ended_of now in
        let e2 = total-flat_map d ended_of (take i now) in
        omega (arith, f, b, p, q, z, e1, e2)

-- where what ends is there, the next end is there
pub ends_held : (now : List Edge) (i : ℕ) (x : Edge) (rows0 rows1 : List HeldRow) → i < length now → x ≡ get_or now i x →
    ((w : HeldRow → ℕ) → total w (ended_rows now) ≤ total w rows0) → ((w : HeldRow → ℕ) → total w rows0 ≡ total w rows1 + total w (ended_rows (take i now))) → HoldsEnded x rows1
ends_held now i x rows0 rows1 low is fit before end =
    let d : HeldRow → ℕ = λ r. cond (is_held x.cells x.other r) 1 0 in
    let f = fit d in
    let b = before d in
    let p = total_part (λ y. total d (ended_of y)) now i x low in
    let q = ap (λ y. total d (ended_of y)) is in
    let z = ended_itself x end in
    let e1 = total-flat_map d ended_of now in
    let e2 = total-flat_map d ended_of (take i now) in
    omega (arith, f, b, p, q, z, e1, e2)

pub rows_more : (f : Edge → List HeldRow) (w : HeldRow → ℕ) (now : List Edge) (i : ℕ) (x : Edge) → i < length now → x ≡ get_or now i x →
    total w (flat_map f (take (i + 1) now)) ≡ total w (flat_map f (take i now)) + total w (f x)
rows_more f w now i x low is =
    let a = total-flat_map w f (take (i + 1) now) in
    let b = total-flat_map w f (take i now) in
    let c = total_more (λ z. total w (f z)) now i x low in
    let d = ap (λ z. total w (f z)) is in
    omega (arith, a, b, c, d)

pub map_more : (t : ℕ) (r : HeldRow) (rows : List HeldRow) (i : ℕ) (answer0 answer1 answer2 : List Edge) → i < length rows → r ≡ get_or rows i r →
    answer2 ≡ answer1 ++ (told_at false t r ∷ []) → Adds answer0 answer1 (map (told_at false t) (take i rows)) → Adds answer0 answer2 (map (told_at false t) (take (i + 1) rows))
map_more t r rows i answer0 answer1 answer2 low is pushed h =
    adds_bag answer0 answer2 _ _ (adds_then answer0 answer1 answer2 _ _ h (record { added = told_at false t r ∷ []; is = pushed; bag = SameBag-refl _ }))
    (record {
      weigh = λ w.
          let a = total-append w (map (told_at false t) (take i rows)) (told_at false t r ∷ []) in
          let b = total-map w (told_at false t) (take i rows) in
          let c = total-map w (told_at false t) (take (i + 1) rows) in
          let e = total_more (λ x. w (told_at false t x)) rows i r low in
          let g = ap (λ x. w (told_at false t x)) is in
          omega (arith, a, b, c, e, g);
    })
