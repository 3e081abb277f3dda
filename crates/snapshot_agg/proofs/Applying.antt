-- The edges of an instant, applied from the last one on.
use Rattle.std.specs.Prelude.{◌≡◌, ℕ, zero, suc, ◌+◌, ◌<◌, ◌≤◌, ◌||◌, Bool, true, false, cond, List, [], ◌∷◌, length, get_or, take, drop, slice_set, flat_map, refl}
use Rattle.std.specs.List.{list_any}
use Rattle.std.proofs.Common.{sym, ◌∙◌, ap, arith}
use Rattle.std.proofs.lemmas.List.{get_or-take, take-take, take-set}
use Rattle.tw_rows.specs.Bag.{total}
use Rattle.tw_rows.specs.SameCells.{same_cells}
use Rattle.tw_rows.specs.declared.cells.Datum.{Datum}
use Rattle.tw_rows.specs.declared.edge.Edge.{Edge}
use Rattle.tw_rows.specs.declared.edge.HeldRow.{HeldRow}
use Rattle.tw_rows.proofs.Bags.{total-append}
use Rattle.edge_history.specs.Opens.{ended_of, started_of, ended_rows, started_rows, is_held}
use Rattle.sweep_laws.specs.Moves.{HoldsEnded}
use Rattle.sweep_laws.specs.Grouping.{keys_of}
use Rattle.sweep_laws.proofs.Adding.{ended_itself}
use Rattle.sweep_laws.specs.Changes.{TakeAtMost}
use Rattle.snapshot_agg.specs.Words.{key_data}

-- an edge stands before those behind it
edge_first : (es : List Edge) (i : ℕ) (x : Edge) → i < length es → x ≡ get_or es i x → drop i es ≡ x ∷ drop (suc i) es
edge_first [] i x low is = absurd (omega (arith, low))
edge_first (y ∷ es) zero x low is = ap (λ z. z ∷ es) (sym is)
edge_first (y ∷ es) (suc i) x low is = edge_first es i x (omega (arith, low)) is

-- lists whose first edges are the same, and once one behind them is another
pub same_before : (xs ys : List Edge) (i j : ℕ) (d : Edge) → i < j → take j xs ≡ take j ys → get_or xs i d ≡ get_or ys i d
same_before xs ys i j d low e = sym (get_or-take j xs i d low) ∙ ap (λ (l : List Edge). get_or l i d) e ∙ get_or-take j ys i d low

pub first_written : (xs ys : List Edge) (i j : ℕ) (x : Edge) → i < j → take j xs ≡ take j ys → take i (slice_set xs i x) ≡ take i ys
first_written xs ys i j x low e =
    let le : i ≤ j = omega (arith, low) in
    take-set xs i x ∙ sym (take-take i j xs le) ∙ ap (take i) e ∙ take-take i j ys le

-- the rows of the last edges are among those of all
pub fewer_rows : (rows_of : Edge → List HeldRow) (w : HeldRow → ℕ) (es : List Edge) (i : ℕ) → total w (flat_map rows_of (drop i es)) ≤ total w (flat_map rows_of es)
fewer_rows rows_of w [] zero = omega arith
fewer_rows rows_of w [] (suc i) = omega arith
fewer_rows rows_of w (x ∷ es) zero = omega arith
fewer_rows rows_of w (x ∷ es) (suc i) =
    let h = fewer_rows rows_of w es i in
    let a = total-append w (rows_of x) (flat_map rows_of es) in
    omega (arith, h, a)

-- the rows that start are those of the first edges and those of the others
pub started_parts : (w : HeldRow → ℕ) (n : ℕ) (es : List Edge) → total w (started_rows es) ≡ total w (started_rows (take n es)) + total w (started_rows (drop n es))
started_parts w zero es = omega arith
started_parts w (suc n) [] = omega arith
started_parts w (suc n) (x ∷ es) =
    let h = started_parts w n es in
    let a = total-append w (started_of x) (started_rows es) in
    let b = total-append w (started_of x) (started_rows (take n es)) in
    omega (arith, h, a, b)

or_swap : (a b : Bool) → (a || b) ≡ (b || a)
or_swap true true = refl
or_swap true false = refl
or_swap false true = refl
or_swap false false = refl

-- what changed so far, from the edge at j on, and one edge before it
module _ (now : List Edge) (i j : ℕ) (x : Edge) (next : j ≡ i + 1) (low : i < length now) (is : x ≡ get_or now i x) where
  behind : drop j now ≡ drop (suc i) now
  behind = ap (λ n. drop n now) (let e : j ≡ suc i = omega (arith, next) in e)

  pub moved_before : (rows0 rows1 rows2 : List HeldRow) →
      (HoldsEnded x rows1 → (w : HeldRow → ℕ) → total w rows2 + total w (ended_of x) ≡ total w rows1 + total w (started_of x)) →
      (((w : HeldRow → ℕ) → total w (ended_rows now) ≤ total w rows0) → (w : HeldRow → ℕ) → total w rows1 + total w (ended_rows (drop j now)) ≡ total w rows0 + total w (started_rows (drop j now))) →
      ((w : HeldRow → ℕ) → total w (ended_rows now) ≤ total w rows0) → (w : HeldRow → ℕ) →
      total w rows2 + total w (ended_rows (drop i now)) ≡ total w rows0 + total w (started_rows (drop i now))
  moved_before rows0 rows1 rows2 one before fit w =
      let e = ends w in
      let s = ap (λ l. total w (started_rows l)) (edge_first now i x low is) ∙ total-append w (started_of x) (started_rows (drop (suc i) now)) in
      let t = ap (λ l. total w (started_rows l)) behind in
      let u = ap (λ l. total w (ended_rows l)) behind in
      let b = before fit w in
      let o = one held w in
      omega (arith, e, s, t, u, b, o)
    where
      ends : (v : HeldRow → ℕ) → total v (ended_rows (drop i now)) ≡ total v (ended_of x) + total v (ended_rows (drop (suc i) now))
      ends v = ap (λ l. total v (ended_rows l)) (edge_first now i x low is) ∙ total-append v (ended_of x) (ended_rows (drop (suc i) now))

      held : HoldsEnded x rows1
      held end =
          let d : HeldRow → ℕ = λ r. cond (is_held x.cells x.other r) 1 0 in
          let f = fit d in
          let b = before fit d in
          let p = fewer_rows ended_of d now i in
          let e = ends d in
          let u = ap (λ l. total d (ended_rows l)) behind in
          let z = ended_itself x end in
          omega (arith, f, b, p, e, u, z)

  pub fewer_before : (rows0 rows1 rows2 : List HeldRow) → TakeAtMost rows1 rows2 (started_of x) → TakeAtMost rows0 rows1 (started_rows (drop j now)) →
      TakeAtMost rows0 rows2 (started_rows (drop i now))
  fewer_before rows0 rows1 rows2 one before w =
      let s = ap (λ l. total w (started_rows l)) (edge_first now i x low is) ∙ total-append w (started_of x) (started_rows (drop (suc i) now)) in
      let t = ap (λ l. total w (started_rows l)) behind in
      let b = before w in
      let o = one w in
      omega (arith, s, t, b, o)

  pub touched_before : (key key2 : List ℕ) (ks ks2 : List (List Datum)) → key2 ≡ key →
      ((q : List Datum) → list_any (same_cells q) ks2 ≡ (list_any (same_cells q) ks || same_cells q (key_data key2 x.cells))) →
      ((q : List Datum) → list_any (same_cells q) ks ≡ list_any (same_cells q) (keys_of (key_data key) (drop j now))) →
      (q : List Datum) → list_any (same_cells q) ks2 ≡ list_any (same_cells q) (keys_of (key_data key) (drop i now))
  touched_before key key2 ks ks2 own step h q =
      let mine : Bool = same_cells q (key_data key x.cells) in
      step q ∙ ap (λ l. list_any (same_cells q) ks || same_cells q (key_data l x.cells)) own
      ∙ ap (λ b. b || mine) (h q) ∙ ap (λ l. list_any (same_cells q) (keys_of (key_data key) l) || mine) behind
      ∙ or_swap (list_any (same_cells q) (keys_of (key_data key) (drop (suc i) now))) mine
      ∙ ap (λ l. list_any (same_cells q) (keys_of (key_data key) l)) (sym (edge_first now i x low is))
