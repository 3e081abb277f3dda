-- Cells compare as the rows that they stand for.
use Rattle.std.specs.Prelude.{◌≡◌, ℕ, pos, ◌+◌, ◌<◌, min, List, [], ◌∷◌, length, drop, map}
use Rattle.std.specs.List.Sorted.{IsSorted, IsSortedBy}
use Rattle.std.specs.Ordering.{nat_cmp, is_lt, ordering_then, MatchOrdering}
use Rattle.std.specs.Cmp.{ranks}
use Rattle.std.specs.declared.cmp.Ordering.{Ordering}
use Rattle.std.specs.declared.cmp.Ordering.TheVariants.{Less, Equal, Greater}
use Rattle.std.proofs.Common.{sym, ◌∙◌, ap, arith, get_or}
use Rattle.std.proofs.lemmas.List.{drop_all, drop_more, get_or-map, length-map}
use Rattle.tw_rows.specs.Cells.{read_datum, read_cells}
use Rattle.tw_rows.specs.Rows.{Row, value_cmp, row_cmp}
use Rattle.tw_rows.specs.declared.cells.Datum.{Datum}
use Rattle.tw_rows.specs.declared.cells.Datum.TheVariants.{Int as IntDatum}
use Rattle.tw_rows.specs.declared.edge.Edge.{Edge}

-- the rows of what is left of cells
abbrev pub left : List (List ℕ) → List Datum → ℕ → Row
left texts cells i = read_cells texts (drop i cells)

left_next : (texts : List (List ℕ)) (cells : List Datum) (i : ℕ) (d : Datum) → i < length cells → left texts cells i ≡ read_datum texts (get_or cells i d) ∷ left texts cells (i + 1)
left_next texts cells i d low =
    ap (read_cells texts) (drop_more cells i d low)

-- the next data decide unless they are equal
pub cmp_at : (texts : List (List ℕ)) (a b : List Datum) (i : ℕ) (d e : Datum) (o all : Ordering) → i < length a → i < length b →
    o ≡ value_cmp (read_datum texts (get_or a i d)) (read_datum texts (get_or b i e)) → all ≡ row_cmp (left texts a i) (left texts b i) →
    all ≡ ordering_then o (row_cmp (left texts a (i + 1)) (left texts b (i + 1)))
cmp_at texts a b i d e o all la lb is so_far =
    let p = left_next texts a i d la in
    let q = left_next texts b i e lb in
    so_far ∙ (λ k. row_cmp (p k) (q k)) ∙ ap (λ x. ordering_then x (row_cmp (left texts a (i + 1)) (left texts b (i + 1)))) (sym is)

-- and where one has come to its end the shorter one is less
pub cmp_last : (texts : List (List ℕ)) (a b : List Datum) (n : ℕ) → n ≡ min (length a) (length b) → row_cmp (left texts a n) (left texts b n) ≡ nat_cmp (length a) (length b)
cmp_last texts a b n is = pick (nat_cmp (length a) (length b)) (ranks (length a) (length b))
  where
    pick : (o : Ordering) → MatchOrdering o (length a < length b) (length a ≡ length b) (length b < length a) → row_cmp (left texts a n) (left texts b n) ≡ o
    pick Less h =
        let p = ap (read_cells texts) (drop_all n a (omega (arith, is, h))) in
        let q = left_next texts b n (IntDatum (pos 0)) (omega (arith, is, h)) in
        λ k. row_cmp (p k) (q k)
    pick Equal h =
        let p = ap (read_cells texts) (drop_all n a (omega (arith, is, h))) in
        let q = ap (read_cells texts) (drop_all n b (omega (arith, is, h))) in
        λ k. row_cmp (p k) (q k)
    pick Greater h =
        let p = left_next texts a n (IntDatum (pos 0)) (omega (arith, is, h)) in
        let q = ap (read_cells texts) (drop_all n b (omega (arith, is, h))) in
        λ k. row_cmp (p k) (q k)

-- edges that are sorted by their rows have rows in order
pub rows_sorted : (texts : List (List ℕ)) (es : List Edge) → IsSortedBy (λ x y. is_lt (row_cmp (read_cells texts x.cells) (read_cells texts y.cells))) es →
    IsSorted row_cmp (map (λ e. read_cells texts e.cells) es)
rows_sorted texts es h k d low inside =
    let read : Edge → Row = λ e. read_cells texts e.cells in
    let e0 : Edge = record { sync = 0; other = 0; cells = [] } in
    let long = length-map es read in
    let a = get_or-map read es (k + 1) e0 d (omega (arith, inside, long)) in
    let b = get_or-map read es k e0 d (omega (arith, inside, long)) in
    (λ i. is_lt (row_cmp (a i) (b i))) ∙ h k e0 low (omega (arith, inside, long))
