-- The columns of a row with averages.
use Rattle.std.specs.Prelude.{◌≡◌, ℕ, zero, suc, ◌+◌, ◌-◌, ◌<◌, ◌≤◌, nat_eq, ℤ, pos, ◌≤ℤ◌, int_lt, true, false, cond, Some, List, [], ◌∷◌, length, slice_get, unwrap_or, refl}
use Rattle.std.specs.List.{list_any}
use Rattle.std.specs.Int.{int_div_euclid}
use Rattle.std.proofs.lemmas.Int.{ints}
use Rattle.std.proofs.Common.{sym, ◌∙◌, ap, arith, add-zero, zero-add}
use Rattle.plan_model.specs.Means.{mean_of, means_from, mean_row}
use Rattle.plan_model.specs.RowOps.{RowOps, int_in}

module _ {X : Type 0} (ops : RowOps X) (at : List ℕ) (count : ℤ) where
  -- what stands in a column
  abbrev stands : ℕ → X → X
  stands column x = cond (list_any (nat_eq column) at) (mean_of ops count x) x

  length_from : (column : ℕ) (row : List X) → length (means_from ops column at count row) ≡ length row - 1
  length_from column [] = refl
  length_from column (x ∷ []) = refl
  length_from column (x ∷ y ∷ rest) = let h = length_from (suc column) (y ∷ rest) in omega (arith, h)

  column_from : (column : ℕ) (row : List X) (i : ℕ) (x : X) → slice_get row i ≡ Some x → i + 1 < length row → slice_get (means_from ops column at count row) i ≡ Some (stands (column + i) x)
  column_from column [] i x there low = absurd (omega arith)
  column_from column (y ∷ []) i x there low = absurd (omega arith)
  column_from column (y ∷ z ∷ rest) zero x there low =
      ap (λ v. Some (stands column v)) (ap (λ o. unwrap_or o y) there) ∙ ap (λ c. Some (stands c x)) (sym (add-zero column))
  column_from column (y ∷ z ∷ rest) (suc i) x there low =
      let next : suc column + i ≡ column + suc i = omega arith in
      column_from (suc column) (z ∷ rest) i x there (omega arith) ∙ ap (λ c. Some (stands c x)) next

-- all columns but the last stay or are averaged
pub length_of_mean : {X : Type 0} (ops : RowOps X) (at : List ℕ) (row : List X) → length (mean_row ops at row) ≡ length row - 1
length_of_mean ops at row = length_from ops at (int_in ops (length row - 1) row) 0 row

pub column_of_mean : {X : Type 0} (ops : RowOps X) (at : List ℕ) (row : List X) (i : ℕ) (x : X) → slice_get row i ≡ Some x → i + 1 < length row →
    slice_get (mean_row ops at row) i ≡ Some (cond (list_any (nat_eq i) at) (mean_of ops (int_in ops (length row - 1) row) x) x)
column_of_mean ops at row i x there low =
    column_from ops at (int_in ops (length row - 1) row) 0 row i x there low
    ∙ ap (λ c. Some (cond (list_any (nat_eq c) at) (mean_of ops (int_in ops (length row - 1) row) x) x)) (zero-add i)

pub mean_divided : {X : Type 0} (ops : RowOps X) (count : ℕ) (x : X) → 1 ≤ count → mean_of ops (pos count) x ≡ ops.of_int (int_div_euclid (ops.int_of x) (pos count))
mean_divided ops count x some = ap (λ b. cond b (ops.of_int (int_div_euclid (ops.int_of x) (pos count))) x) (above count some)
  where
    above : (n : ℕ) → 1 ≤ n → int_lt (pos 0) (pos n) ≡ true
    above n h = grind (arith, ints)

pub mean_kept : {X : Type 0} (ops : RowOps X) (count : ℤ) (x : X) → count ≤ℤ pos 0 → mean_of ops count x ≡ x
mean_kept ops count x none = ap (λ b. cond b (ops.of_int (int_div_euclid (ops.int_of x) count)) x) (below count none)
  where
    below : (z : ℤ) → z ≤ℤ pos 0 → int_lt (pos 0) z ≡ false
    below z h = grind (arith, ints)
