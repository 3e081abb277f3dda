-- The cells of the rows, by column and by row.
use Rattle.std.proofs.Common.{◌≡◌, ℕ, zero, suc, ℤ, ◌<◌, pos, true, false, Bool, List, [], ◌∷◌, map, length, get_or, ap, sym, subst, ◌∙◌, arith}
use Rattle.std.specs.Prelude.{All}
use Rattle.tw_rows.specs.declared.cells.Datum.TheVariants.{Int, Bool as Flag}
use Rattle.tw_rows.specs.Cells.{datum_kind, IsPlaced, ArePlaced}
use Rattle.batch.specs.declared.payload.Payload.{Payload}
use Rattle.batch.specs.declared.batch.Batch.TheInside.{Inside}
use Rattle.batch.specs.contracts.batch.Batch.{the_view}
use Rattle.batch.specs.Rows.{Row, Table}
use Rattle.batch.specs.Payloads.{payload_data, cells_at}
use Rattle.batch.specs.Columns.{row_at}
use Rattle.batch.specs.Places.{IsColumnPlaced}
use Rattle.batch.proofs.Pushing.{kinds-cells_at}
use Rattle.batch.proofs.Tables.{get_or-rows_of}
use Rattle.batch.proofs.Views.{columns_of, Holds, rows_are, kinds_are, sync_place, payload_place, length_is}

-- numbers and truth values have no place to lack
pub ints_placed : (texts : List (List ℕ)) (xs : List ℤ) (i : ℕ) → IsPlaced texts (get_or (map Int xs) i (Int (pos 0)))
ints_placed texts [] i = tt
ints_placed texts (x ∷ xs) zero = tt
ints_placed texts (x ∷ xs) (suc i) = ints_placed texts xs i

pub flags_placed : (texts : List (List ℕ)) (xs : List Bool) (i : ℕ) → IsPlaced texts (get_or (map Flag xs) i (Int (pos 0)))
flags_placed texts [] i = tt
flags_placed texts (x ∷ xs) zero = tt
flags_placed texts (x ∷ xs) (suc i) = flags_placed texts xs i

-- the cell of each column at a place
cells_placed : (texts : List (List ℕ)) (ps : List Payload) (i : ℕ) → ((k : ℕ) (d : Payload) → k < length ps → IsPlaced texts (get_or (payload_data (get_or ps k d)) i (Int (pos 0)))) → ArePlaced texts (cells_at ps i)
cells_placed texts [] i all = tt
cells_placed texts (p ∷ ps) i all = (all 0 p (omega arith), cells_placed texts ps i (λ k d low. all (suc k) d (omega (arith, low))))

column_placed : (texts : List (List ℕ)) (ps : List Payload) (i : ℕ) → ArePlaced texts (cells_at ps i) → (k : ℕ) (d : Payload) → k < length ps → IsPlaced texts (get_or (payload_data (get_or ps k d)) i (Int (pos 0)))
column_placed texts [] i all k d low = absurd (omega (arith, low))
column_placed texts (p ∷ ps) i all zero d low = all.0
column_placed texts (p ∷ ps) i all (suc k) d low = column_placed texts ps i all.1 k d (omega (arith, low))

module _ (b : Inside) (t : Table) (is : the_view b ≡ t) (holds : Holds b) where
  row_is : (i : ℕ) (d : Row) → i < length t.rows → get_or t.rows i d ≡ row_at (columns_of b) i
  row_is i d low = ap (λ rs. get_or rs i d) (sym (rows_are b t is holds)) ∙ get_or-rows_of (columns_of b) i d (sync_place b t is holds i low)

  pub kinds_of_rows : All (λ r. map datum_kind r.cells ≡ t.kinds) t.rows
  kinds_of_rows i d low =
      ap (λ r. map datum_kind r.cells) (row_is i d low) ∙ kinds-cells_at b.payload.items i (payload_place b t is holds i low) ∙ kinds_are b t is holds

  module _ (texts : List (List ℕ)) where
    pub rows_placed : ((k : ℕ) (d : Payload) → k < length b.payload.items → IsColumnPlaced texts b.occupied.items (payload_data (get_or b.payload.items k d))) →
        All (λ r. r.occupied ≡ true → ArePlaced texts r.cells) t.rows
    rows_placed all i d low set =
        let here = row_is i d low in
        let bit : get_or b.occupied.items i false ≡ true = sym (ap (λ r. r.occupied) here) ∙ set in
        subst (λ r. ArePlaced texts r.cells) (sym here)
        (cells_placed texts b.payload.items i (λ k p within. all k p within i (payload_place b t is holds i low k p within) bit))

    pub columns_placed : All (λ r. r.occupied ≡ true → ArePlaced texts r.cells) t.rows →
        (k : ℕ) (d : Payload) → k < length b.payload.items → IsColumnPlaced texts b.occupied.items (payload_data (get_or b.payload.items k d))
    columns_placed all k d within i low set =
        let column = holds.columns.payload k d within in
        let place : i < length t.rows = (let long = length_is b t is holds in omega (arith, low, column.cells, long)) in
        let here = row_is i (row_at (columns_of b) i) place in
        column_placed texts b.payload.items i
        (subst (λ r. ArePlaced texts r.cells) here (all i (row_at (columns_of b) i) place (ap (λ r. r.occupied) here ∙ set))) k d within
