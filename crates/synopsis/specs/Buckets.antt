-- Rows in buckets, one for each key, as a map holds them.
use Rattle.std.specs.Prelude.{◌≡◌, ℕ, nat_lt, Bool, List, map, flat_map, length, Vec}
use Rattle.tw_rows.specs.Bag.{total}
use Rattle.tw_rows.specs.declared.cells.Datum.{Datum}
use Rattle.tw_rows.specs.declared.edge.HeldRow.{HeldRow}
use Rattle.edge_history.specs.Order.{failing}
use Rattle.synopsis.specs.Held.{is_of_key}

-- the data of a key, and the rows that have it
abbrev pub Entry : Type 0 → Type 0
Entry S = Vec Datum S × List HeldRow

-- the rows of all buckets, and the rows bucket by bucket
abbrev pub rows_in : {S : Type 0} → List (Entry S) → List HeldRow
rows_in es = flat_map (λ e. e.1) es

abbrev pub blocks_in : {S : Type 0} → List (Entry S) → List (List HeldRow)
blocks_in es = map (λ e. e.1) es

-- how many rows of a bucket do not have its key, and whether it has a row
abbrev pub strays : {S : Type 0} → List ℕ → Entry S → ℕ
strays columns e = failing (is_of_key columns e.0.items) e.1

abbrev pub has_rows : {S : Type 0} → Entry S → Bool
has_rows e = nat_lt 0 (length e.1)

-- the rows of each bucket have its key, and each bucket has a row
pub record AreKeyed {S : Type 0} (columns : List ℕ) (es : List (Entry S)) : Type 0 where
  pub own : total (strays columns) es ≡ 0
  pub filled : failing has_rows es ≡ 0
