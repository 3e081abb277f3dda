-- The rows of one key in groups of equal rank, and which of the groups are shown.
use Rattle.std.specs.Prelude.{◌≡◌, ◌⊎◌, ℕ, ◌^◌, ◌<◌, ◌≤◌, ℤ, pos, ◌-ℤ◌, nat_lt, nat_le, Bool, true, List, [], ◌∷◌, flat_map, length}
use Rattle.std.specs.Ordering.{int_eq}
use Rattle.tw_rows.specs.Bag.{total}
use Rattle.tw_rows.specs.declared.cells.Datum.{Datum}
use Rattle.tw_rows.specs.declared.edge.HeldRow.{HeldRow}
use Rattle.edge_history.specs.Order.{failing}

-- a rank and the rows of that rank
abbrev pub Group : Type 0
Group = ℕ × List HeldRow

-- the rows of all groups
abbrev pub rows_in : List Group → List HeldRow
rows_in gs = flat_map (λ g. g.1) gs

-- the int that a rank stands for, so that ranks of 64 bits without a sign are in the order of ints of 64 bits: 2^63 for 0
unfoldable pub value_at : ℕ → ℤ
value_at k = pos k -ℤ pos (2 ^ 63)

-- a row with the value of that rank
abbrev pub has_rank : (List Datum → ℤ) → List Datum → ℕ → Bool
has_rank value r k = int_eq (value r) (value_at k)

-- the cells have no other rank
abbrev pub IsOnlyRank : (List Datum → ℕ → Bool) → List Datum → ℕ → Type 0
IsOnlyRank rank cells k = (n : ℕ) → rank cells n ≡ true → n ≡ k

-- how many rows of a group have not its rank
abbrev pub strays : (List Datum → ℕ → Bool) → Group → ℕ
strays rank g = failing (λ r. rank r.cells g.0) g.1

-- each row stands in the group of its rank
abbrev pub AreRanked : (List Datum → ℕ → Bool) → List Group → Type 0
AreRanked rank gs = total (strays rank) gs ≡ 0

-- no rank of the groups is k or above it; none is below it
abbrev pub AreBelow : ℕ → List Group → Type 0
AreBelow k gs = failing (λ g. nat_lt g.0 k) gs ≡ 0

abbrev pub AreFrom : ℕ → List Group → Type 0
AreFrom k gs = failing (λ g. nat_le k g.0) gs ≡ 0

-- each hidden group has a lower rank than each shown one
abbrev pub AreApart : List Group → List Group → Type 0
AreApart shown hidden = total (λ s. failing (λ h. nat_lt h.0 s.0) hidden) shown ≡ 0

-- the groups but the first, which has the least rank; and that it has
abbrev pub but_first : List Group → List Group
but_first [] = []
but_first (g ∷ gs) = gs

abbrev pub FirstIsLeast : List Group → Type 0
FirstIsLeast [] = Unit {0}
FirstIsLeast (g ∷ gs) = AreFrom g.0 gs

-- fewer than so many rows are shown above the least of the ranks that are shown. Of the values 7, 7 and 5 and the count 3 all
-- may be shown, and of 7, 7, 7 and 5 not
pub record AreFew (most : ℕ) (shown : List Group) : Type 0 where
  pub few : length (rows_in (but_first shown)) < most
  pub least : FirstIsLeast shown

-- and none is hidden unless so many are shown
abbrev pub AreEnough : ℕ → List Group → List Group → Type 0
AreEnough most shown hidden = (hidden ≡ []) ⊎ (most ≤ length (rows_in shown))
