-- Weights of lists of rows.
use Rattle.std.specs.Prelude.{◌≡◌, ℕ, ◌+◌, ◌<◌, nat_eq, Bool, true, false, cond, List, [], ◌∷◌, length, get_or, take, IsPermutation}
use Rattle.std.specs.List.{swap_remove}
use Rattle.std.proofs.Common.{◌∙◌, ap, arith}
use Rattle.std.proofs.lemmas.Bool.{and_parts, eqb-true}
use Rattle.std.proofs.lemmas.List.{take_more}
use Rattle.std.proofs.lemmas.List.Sums.{sum_by-swap_remove}
use Rattle.std.proofs.lemmas.List.Sorted.{sum_by-IsPermutation}
use Rattle.tw_rows.specs.Bag.{total}
use Rattle.tw_rows.specs.SameCells.{same_cells, cells_are_same}
use Rattle.tw_rows.specs.declared.cells.Datum.{Datum}
use Rattle.tw_rows.specs.declared.edge.HeldRow.{HeldRow}
use Rattle.tw_rows.proofs.Bags.{total-append, total-is-sum_by}
use Rattle.edge_history.specs.Order.{many}
use Rattle.edge_history.specs.Opens.{is_held}

pub none_more : {X : Type 0} (p : X → Bool) (xs : List X) (i : ℕ) (d : X) → i < length xs → p (get_or xs i d) ≡ false → many p (take i xs) ≡ 0 → many p (take (i + 1) xs) ≡ 0
none_more {X} p xs i d low fails none =
    let w : X → ℕ = λ x. cond {A = ℕ} (p x) 1 0 in
    let a = ap (total w) (take_more xs i d low) in
    let b = total-append w (take i xs) (get_or xs i d ∷ []) in
    let z = ap (λ b. cond {A = ℕ} b 1 0) fails in
    omega (arith, a, b, z, none)

-- a row with these cells and this start is that row
pub is_that_row : (w : HeldRow → ℕ) (r : HeldRow) (cells : List Datum) (start : ℕ) → is_held cells start r ≡ true → w r ≡ w (record { cells = cells; start = start })
is_that_row w r cells start held =
    let p = and_parts (nat_eq r.start start) (same_cells r.cells cells) held in
    let s = eqb-true r.start start p.0 in
    let e = cells_are_same r.cells cells p.1 in
    ap (λ l. w (record { cells = l; start = r.start })) e ∙ ap (λ n. w (record { cells = cells; start = n })) s

-- what goes with the row at a place
pub taken_out : (w : HeldRow → ℕ) (xs ys : List HeldRow) (i : ℕ) (d : HeldRow) (cells : List Datum) (start : ℕ) → IsPermutation xs ys → i < length ys →
    is_held cells start (get_or ys i d) ≡ true → total w xs ≡ total w (swap_remove ys i d) + w (record { cells = cells; start = start })
taken_out w xs ys i d cells start same low held =
    let a = sum_by-swap_remove w ys i d low in
    let b = total-is-sum_by w xs in
    let c = total-is-sum_by w (swap_remove ys i d) in
    let f = sum_by-IsPermutation w xs ys same in
    let g = is_that_row w (get_or ys i d) cells start held in
    omega (arith, a, b, c, f, g)
