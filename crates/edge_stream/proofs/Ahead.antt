-- What a cursor has still to read, from row to row and from batch to batch.
use Rattle.std.proofs.Common.{◌≡◌, ◌≤◌, ◌<◌, ℕ, zero, suc, ◌+◌, true, false, ◌⊎◌, inl, inr, List, [], ◌∷◌, ◌++◌, map, length, get_or, drop, refl, ap, sym, ◌∙◌, arith, add-one, drop-cons}
use Rattle.std.specs.Prelude.{slice_get, Some, None}
use Rattle.std.proofs.lemmas.List.{get_or-map, get_or_past, length-map}
use Rattle.std.proofs.lemmas.Option.{get_or_from_slice_get, slice_get_past}
use Rattle.std.proofs.lemmas.Bool.{cases_lt}
use Rattle.occupancy.specs.Bits.{is_set_at, IsNextSet, IsNoneSet}
use Rattle.occupancy.proofs.Filtered.{filter-none_set, filter-next_set}
use Rattle.tw_rows.specs.declared.edge.Edge.{Edge}
use Rattle.batch.specs.Rows.{Row, Table, edge_of, edges_of}
use Rattle.edge_stream.specs.Listing.{edges_in}
use Rattle.edge_stream.specs.Reading.{edges_from, IsAtEdge}
use Rattle.batch.proofs.Keeping.{no_row}
use Rattle.edge_stream.proofs.CutLists.{found_at}

pub edges_from-first : (bs : List Table) → edges_from 0 bs ≡ edges_in bs
edges_from-first [] = refl
edges_from-first (b ∷ bs) = refl

pub edges_from-end : (row n : ℕ) (bs : List Table) → length bs ≤ n → edges_from row (drop n bs) ≡ []
edges_from-end row zero [] le = refl
edges_from-end row (suc n) [] le = refl
edges_from-end row zero (b ∷ bs) le = absurd (omega arith)
edges_from-end row (suc n) (b ∷ bs) le = edges_from-end row n bs (omega arith)

module _ (bs : List Table) (n row : ℕ) (b : Table) (lt : n < length bs) (is : b ≡ get_or bs n b) where
  here : drop n bs ≡ b ∷ drop (suc n) bs
  here = drop-cons bs n b lt ∙ ap (λ x. x ∷ drop (suc n) bs) (sym is)

  first_from : (from k : ℕ) → IsNextSet (map (λ r. r.occupied) b.rows) from k → edges_of (drop from b.rows) ≡ edge_of (get_or b.rows k no_row) ∷ edges_of (drop (k + 1) b.rows)
  first_from from k next = ap (map edge_of) (filter-next_set (λ r. r.occupied) b.rows from k no_row next)

  -- the row to go on with holds the next edge
  pub at_next : is_set_at (map (λ r. r.occupied) b.rows) row ≡ true → edges_from row (drop n bs) ≡ edge_of (get_or b.rows row no_row) ∷ edges_from (row + 1) (drop n bs)
  at_next set =
      let next : IsNextSet (map (λ r. r.occupied) b.rows) row row = record { in_range = omega arith; set = set; least = λ k a b. absurd (omega (arith, a, b)) } in
      ap (edges_from row) here ∙ ap (λ l. l ++ edges_in (drop (suc n) bs)) (first_from row row next) ∙ ap (λ l. edge_of (get_or b.rows row no_row) ∷ l) (sym (ap (edges_from (row + 1)) here))

  -- rows that hold no edge are passed over
  pub ahead_skip : (k : ℕ) → IsNextSet (map (λ r. r.occupied) b.rows) row k → edges_from row (drop n bs) ≡ edges_from k (drop n bs)
  ahead_skip k next =
      let there : IsNextSet (map (λ r. r.occupied) b.rows) k k = record { in_range = omega arith; set = next.set; least = λ j a b. absurd (omega (arith, a, b)) } in
      ap (edges_from row) here ∙ ap (λ l. l ++ edges_in (drop (suc n) bs)) (first_from row k next ∙ sym (first_from k k there)) ∙ sym (ap (edges_from k) here)

  -- no row of this batch is left
  pub ahead-none : IsNoneSet (map (λ r. r.occupied) b.rows) row → edges_from row (drop n bs) ≡ edges_from 0 (drop (n + 1) bs)
  ahead-none none =
      let left : edges_of (drop row b.rows) ≡ [] = ap (map edge_of) (filter-none_set (λ r. r.occupied) b.rows row none) in
      ap (edges_from row) here ∙ ap (λ l. l ++ edges_in (drop (suc n) bs)) left ∙ sym (edges_from-first (drop (suc n) bs)) ∙ ap (λ m. edges_from 0 (drop m bs)) (sym (add-one n))

-- an occupied row is one of the rows
pub row_within : (rows : List Row) (i : ℕ) → is_set_at (map (λ r. r.occupied) rows) i ≡ true → i < length rows
row_within rows i set = at (cases_lt i (length rows))
  where
    at : (i < length rows) ⊎ (length rows ≤ i) → i < length rows
    at (inl lt) = lt
    at (inr le) =
        let none : is_set_at (map (λ r. r.occupied) rows) i ≡ false = get_or_past (map (λ r. r.occupied) rows) i false (omega (arith, le, length-map rows (λ r. r.occupied))) in
        absurd (cc)

-- and it is occupied
pub row_occupied : (rows : List Row) (i : ℕ) → is_set_at (map (λ r. r.occupied) rows) i ≡ true → (r : Row) → slice_get rows i ≡ Some r → r.occupied ≡ true
row_occupied rows i set r found =
    ap (λ q. q.occupied) (sym (get_or_from_slice_get rows i r r found)) ∙ sym (get_or-map (λ q. q.occupied) rows i r false (row_within rows i set)) ∙ set

pub at_end : (bs : List Table) (n row : ℕ) → length bs ≤ n → IsAtEdge bs n row
at_end bs n row le b found = let none : slice_get bs n ≡ None = slice_get_past bs n le in absurd (cc)

-- where there is a batch at the place, its row holds the next edge
module _ (bs : List Table) (n row : ℕ) (b : Table) (lt : n < length bs) (is : b ≡ get_or bs n b) (at : IsAtEdge bs n row) where
  pub stands : is_set_at (map (λ r. r.occupied) b.rows) row ≡ true
  stands = at b (found_at bs n b lt is)

  pub next_edge : edges_from row (drop n bs) ≡ edge_of (get_or b.rows row no_row) ∷ edges_from (row + 1) (drop n bs)
  next_edge = at_next bs n row b lt is stands

pub head_is : (x y : Edge) (xs ys : List Edge) → x ∷ xs ≡ y ∷ ys → x ≡ y
head_is x y xs ys e = ap (λ l. get_or l 0 x) e

pub tail_is : (x y : Edge) (xs ys : List Edge) → x ∷ xs ≡ y ∷ ys → xs ≡ ys
tail_is x y xs ys e = ap (drop 1) e
