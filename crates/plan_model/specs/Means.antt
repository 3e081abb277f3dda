-- Averages, from sums and the count that stands in the last column.
use Rattle.std.specs.Prelude.{ℕ, suc, ◌-◌, nat_eq, ℤ, pos, int_lt, cond, List, [], ◌∷◌, length}
use Rattle.std.specs.List.{list_any}
use Rattle.std.specs.Int.{int_div_euclid}
use Rattle.plan_model.specs.RowOps.{RowOps, int_in}

-- the Euclidean quotient of the element's int by the count, where that is at least 1. Of -3 by 2 it is -2
abbrev pub mean_of : {X : Type 0} → RowOps X → ℤ → X → X
mean_of ops count x = cond (int_lt (pos 0) count) (ops.of_int (int_div_euclid (ops.int_of x) count)) x

-- of elements of which the first stands in that column, all but the last, and in the columns `at` their quotients
abbrev pub means_from : {X : Type 0} → RowOps X → ℕ → List ℕ → ℤ → List X → List X
means_from ops column at count [] = []
means_from ops column at count (x ∷ []) = []
means_from ops column at count (x ∷ y ∷ rest) =
    cond (list_any (nat_eq column) at) (mean_of ops count x) x ∷ means_from ops (suc column) at count (y ∷ rest)

-- the row without its last column, and with each of the columns `at` divided by that one. Of 7, -3, 2 and the column 1:
-- 7, -2
abbrev pub mean_row : {X : Type 0} → RowOps X → List ℕ → List X → List X
mean_row ops at row = means_from ops 0 at (int_in ops (length row - 1) row) row
