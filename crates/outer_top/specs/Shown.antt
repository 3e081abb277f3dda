-- The rows of one key, and what becomes of them.
use Rattle.std.specs.Prelude.{◌≡◌, ℕ, ◌+◌, ◌≤◌, ◌&&◌, ◌||◌, nat_eq, nat_lt, nat_le, Bool, true, false, List, [], ◌∷◌, ◌++◌, length}
use Rattle.tw_rows.specs.Bag.{total}
use Rattle.tw_rows.specs.declared.cells.Datum.{Datum}
use Rattle.tw_rows.specs.declared.edge.Edge.{Edge}
use Rattle.tw_rows.specs.declared.edge.HeldRow.{HeldRow}
use Rattle.edge_history.specs.Order.{failing}
use Rattle.edge_history.specs.Opens.{bare, ended_of, started_of}
use Rattle.sweep_laws.specs.Moves.{HoldsEnded}
use Rattle.outer_top.specs.Ranks.{Group, rows_in, but_first, strays, AreRanked, IsOnlyRank}
use Rattle.outer_top.specs.declared.ranked.Ranked.{Ranked}

-- all rows of a key, those that are shown first
abbrev pub rows_of : Ranked → List HeldRow
rows_of r = rows_in r.shown.entries ++ rows_in r.hidden.entries

-- those that are shown, without their starts
abbrev pub shown_of : Ranked → List (List Datum)
shown_of r = bare (rows_in r.shown.entries)

-- what all rows weigh together. Of two that are shown and one that is hidden, with 1 for each, it is 3
abbrev pub weight_of : (HeldRow → ℕ) → Ranked → ℕ
weight_of w r = total w (rows_in r.shown.entries) + total w (rows_in r.hidden.entries)

-- rows that stand in the groups of their ranks stand so still, whatever rows have which ranks
abbrev pub KeepsRanks : Ranked → Ranked → Type 0
KeepsRanks old new = (rank_of : List Datum → ℕ → Bool) → AreRanked rank_of old.shown.entries → AreRanked rank_of old.hidden.entries →
    AreRanked rank_of new.shown.entries × AreRanked rank_of new.hidden.entries

-- how many rows are not in the group of their rank
abbrev pub rank_strays : (List Datum → ℕ → Bool) → Ranked → ℕ
rank_strays rank r = total (strays rank) r.shown.entries + total (strays rank) r.hidden.entries

-- there are no groups
pub record IsBare (r : Ranked) : Type 0 where
  pub none_shown : r.shown.entries ≡ []
  pub none_hidden : r.hidden.entries ≡ []

-- the first group has the least rank
abbrev pub first_is_least : List Group → Bool
first_is_least [] = true
first_is_least (g ∷ gs) = nat_eq (failing (λ h. nat_le g.0 h.0) gs) 0

abbrev pub is_none : List Group → Bool
is_none [] = true
is_none (g ∷ gs) = false

-- fewer than so many rows are shown above the least of the ranks that are shown, and none is hidden unless so many are shown
abbrev pub is_settled : ℕ → Ranked → Bool
is_settled most r =
    nat_lt (length (rows_in (but_first r.shown.entries))) most
    && (first_is_least r.shown.entries && (is_none r.hidden.entries || nat_le most (length (rows_in r.shown.entries))))

-- those that are shown changed by what was lost and won
abbrev pub Shows : List (List Datum) → List (List Datum) → List (List Datum) → List (List Datum) → List (List Datum) → List (List Datum) → Type 0
Shows lost0 lost1 won0 won1 old new = (w : List Datum → ℕ) → total w new + total w lost1 + total w won0 ≡ total w old + total w lost0 + total w won1

-- the row of the edge was taken in, or out where it was there
pub record HasChanged (rank : ℕ) (edge : Edge) (lost0 lost1 won0 won1 : List (List Datum)) (old new : Ranked) : Type 0 where
  pub rows : (rank_of : List Datum → ℕ → Bool) → IsOnlyRank rank_of edge.cells rank → rank_strays rank_of old ≡ 0 → HoldsEnded edge (rows_of old) →
      (w : HeldRow → ℕ) → total w (rows_of new) + total w (ended_of edge) ≡ total w (rows_of old) + total w (started_of edge)
  pub more : (w : HeldRow → ℕ) → total w (rows_of new) ≤ total w (rows_of old) + total w (started_of edge)
  pub moved : Shows lost0 lost1 won0 won1 (shown_of old) (shown_of new)
  pub fits : (p : List Datum → Bool) → failing p (bare (rows_of old)) ≡ 0 → p edge.cells ≡ true → failing p won0 ≡ 0 → failing p won1 ≡ 0
  pub ranked : (rank_of : List Datum → ℕ → Bool) → rank_of edge.cells rank ≡ true → rank_strays rank_of old ≡ 0 → rank_strays rank_of new ≡ 0

-- the rows are the same, and so many of them are shown
pub record HasSettled (most : ℕ) (lost0 lost1 won0 won1 : List (List Datum)) (old new : Ranked) : Type 0 where
  pub rows : (w : HeldRow → ℕ) → total w (rows_of new) ≡ total w (rows_of old)
  pub moved : Shows lost0 lost1 won0 won1 (shown_of old) (shown_of new)
  pub fits : (p : List Datum → Bool) → failing p (bare (rows_of old)) ≡ 0 → failing p won0 ≡ 0 → failing p won1 ≡ 0
  pub ranked : (rank_of : List Datum → ℕ → Bool) → rank_strays rank_of old ≡ 0 → rank_strays rank_of new ≡ 0
  pub settled : is_settled most new ≡ true
