-- Rows that are kept from instant to instant, and edges that are as they came from a place on.
use Rattle.std.specs.Prelude.{◌≡◌, ℕ, ◌+◌, ◌≤◌, List, get_or, take, drop}
use Rattle.std.proofs.Common.{◌∙◌, sym, ap, arith}
use Rattle.std.proofs.lemmas.List.{drop-drop, get_or-drop, take-append-drop}
use Rattle.tw_rows.specs.Bag.{total}
use Rattle.tw_rows.specs.declared.edge.Edge.{Edge}
use Rattle.tw_rows.specs.declared.edge.HeldRow.{HeldRow}
use Rattle.tw_rows.proofs.Bags.{total-append, total-flat_map}
use Rattle.edge_history.specs.Opens.{started_of, started_rows}

started_cut : (w : HeldRow → ℕ) (n : ℕ) (es : List Edge) → total w (started_rows es) ≡ total w (started_rows (take n es)) + total w (started_rows (drop n es))
started_cut w n es =
    let f : Edge → ℕ = λ x. total w (started_of x) in
    let a = total-flat_map w started_of es in
    let b = total-flat_map w started_of (take n es) in
    let c = total-flat_map w started_of (drop n es) in
    let d = ap (total (λ x. total w (started_of x))) (sym (take-append-drop n es)) ∙ total-append (λ x. total w (started_of x)) (take n es) (drop n es) in
    omega (arith, a, b, c, d)

-- the edges of an instant are done
pub rows_past : (w : HeldRow → ℕ) (i n : ℕ) (due rest : List Edge) (first old new : ℕ) → rest ≡ drop i due → old + total w (started_rows (drop i due)) ≤ first + total w (started_rows due) →
    new ≤ old + total w (started_rows (take n rest)) → new + total w (started_rows (drop (i + n) due)) ≤ first + total w (started_rows due)
rows_past w i n due rest first old new is before step =
    let a = started_cut w n rest in
    let b = ap (λ l. total w (started_rows l)) is in
    let c = ap (λ l. total w (started_rows l)) (ap (λ (l : List Edge). drop n l) is ∙ drop-drop n i due) in
    omega (arith, before, step, a, b, c)

-- lists that are the same from a place on
pub rest_at : {X : Type 0} (xs ys : List X) (i : ℕ) (d : X) → drop i xs ≡ drop i ys → get_or xs i d ≡ get_or ys i d
rest_at {X} xs ys i d e =
    let z : i + 0 ≡ i = omega arith in
    sym (get_or-drop i xs 0 d ∙ ap (λ k. get_or xs k d) z) ∙ (ap (λ (l : List X). get_or l 0 d) e ∙ (get_or-drop i ys 0 d ∙ ap (λ k. get_or ys k d) z))
