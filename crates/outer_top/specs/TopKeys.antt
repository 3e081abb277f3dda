-- The rows of all keys, each key with its rows.
use Rattle.std.specs.Prelude.{◌≡◌, ℕ, ◌+◌, ◌≤◌, ◌||◌, Bool, Option, Some, None, ℤ, List, [], flat_map, take, drop}
use Rattle.std.specs.List.{IsDistinct, list_any}
use Rattle.std.specs.Map.{lookup, keys_of}
use Rattle.tw_rows.specs.Bag.{total}
use Rattle.tw_rows.specs.SameCells.{same_cells}
use Rattle.tw_rows.specs.declared.cells.Datum.{Datum}
use Rattle.tw_rows.specs.declared.edge.Edge.{Edge}
use Rattle.tw_rows.specs.declared.edge.HeldRow.{HeldRow}
use Rattle.edge_history.specs.Order.{failing}
use Rattle.edge_history.specs.Opens.{bare, ended_rows, started_rows}
use Rattle.plan_model.specs.CellOps.{datum_int}
use Rattle.synopsis.specs.Held.{key_of, cell_or_zero, is_of_key}
use Rattle.outer_top.specs.Ranks.{has_rank}
use Rattle.outer_top.specs.Shown.{rows_of, shown_of, rank_strays, is_settled, IsBare, Shows, HasChanged}
use Rattle.outer_top.specs.declared.ranked.Ranked.{Ranked}

-- the data of a key, and its rows
abbrev pub TopEntry : Type 0
TopEntry = List Datum × Ranked

-- the rows of all keys, and those of them that are shown
abbrev pub kept_rows : List TopEntry → List HeldRow
kept_rows es = flat_map (λ e. rows_of e.1) es

abbrev pub shown_rows : List TopEntry → List (List Datum)
shown_rows es = flat_map (λ e. shown_of e.1) es

-- how many rows of an entry do not have its key
abbrev pub key_strays : List ℕ → TopEntry → ℕ
key_strays columns e = failing (is_of_key columns e.0) (rows_of e.1)

-- each row stands by its own key, and in the group of its rank
pub record AreKept (columns : List ℕ) (rank_of : List Datum → ℕ → Bool) (es : List TopEntry) : Type 0 where
  pub own : total (key_strays columns) es ≡ 0
  pub ranked : total (λ e. rank_strays rank_of e.1) es ≡ 0

-- the rows of a key that is looked for
abbrev pub rows_at : Option Ranked → List HeldRow
rows_at None = []
rows_at (Some r) = rows_of r

-- of the rows of a key those of an edge came or went, and all other keys stay
pub record ChangesKey (key : List Datum) (rank : ℕ) (edge : Edge) (lost0 lost1 won0 won1 : List (List Datum)) (es fs : List TopEntry) : Type 0 where
  pub before : Ranked
  pub after : Ranked
  pub found : rows_at (lookup (same_cells key) es) ≡ rows_of before
  pub apart : IsDistinct same_cells (keys_of es)
  pub low : (v : TopEntry → ℕ) → ((r : Ranked) → IsBare r → v (key, r) ≡ 0) → v (key, before) ≤ total v es
  pub changed : HasChanged rank edge lost0 lost1 won0 won1 before after
  pub weighs : (v : TopEntry → ℕ) → ((r : Ranked) → IsBare r → v (key, r) ≡ 0) → total v fs + v (key, before) ≡ total v es + v (key, after)

-- an entry without rows was taken out
pub record Gone (es fs : List TopEntry) : Type 0 where
  pub entry : TopEntry
  pub bare : IsBare entry.1
  pub weighs : (v : TopEntry → ℕ) → total v fs + v entry ≡ total v es

-- the rows of a key were settled, and no key has other rows than before
pub record SettlesKey (key : List Datum) (most : ℕ) (lost0 lost1 won0 won1 : List (List Datum)) (es fs : List TopEntry) : Type 0 where
  pub rows : (w : HeldRow → ℕ) → total w (kept_rows fs) ≡ total w (kept_rows es)
  pub moved : Shows lost0 lost1 won0 won1 (shown_rows es) (shown_rows fs)
  pub fits : (p : List Datum → Bool) → failing p (bare (kept_rows es)) ≡ 0 → failing p won0 ≡ 0 → failing p won1 ≡ 0
  pub kept : (columns : List ℕ) (rank_of : List Datum → ℕ → Bool) → AreKept columns rank_of es → AreKept columns rank_of fs
  pub settled : (q : List Datum → Bool) → failing (λ e. is_settled most e.1 || (same_cells key e.0 || q e.0)) es ≡ 0 →
      failing (λ e. is_settled most e.1 || q e.0) fs ≡ 0

-- the value of a row in the column that decides: the int of the datum there
abbrev pub value_of : ℕ → List Datum → ℤ
value_of by cells = datum_int (cell_or_zero cells by)

-- whether two rows have the same data in the key columns
abbrev pub meets : List ℕ → List Datum → List Datum → Bool
meets columns a b = same_cells (key_of columns a) (key_of columns b)

-- the rows stand by their keys and ranks
abbrev pub AreTopRows : List ℕ → ℕ → List TopEntry → Type 0
AreTopRows columns by es = AreKept columns (has_rank (value_of by)) es

-- how many keys are not settled
abbrev pub unsettled : ℕ → List TopEntry → ℕ
unsettled most es = failing (λ e. is_settled most e.1) es

-- one of the edges has a row of the key
abbrev pub is_named : List ℕ → List Edge → List Datum → Bool
is_named columns now k = list_any (λ x. same_cells (key_of columns x.cells) k) now

-- of the keys of so many edges the rows came or went
pub record HasTaken (columns : List ℕ) (by most : ℕ) (now : List Edge) (i : ℕ)
    (lost0 lost1 won0 won1 : List (List Datum)) (es fs : List TopEntry) : Type 0 where
  pub kept : AreTopRows columns by es → AreTopRows columns by fs
  pub rows : AreTopRows columns by es → ((w : HeldRow → ℕ) → total w (ended_rows now) ≤ total w (kept_rows es)) → (w : HeldRow → ℕ) →
      total w (kept_rows fs) + total w (ended_rows (take i now)) ≡ total w (kept_rows es) + total w (started_rows (take i now))
  pub more : (w : HeldRow → ℕ) → total w (kept_rows fs) ≤ total w (kept_rows es) + total w (started_rows (take i now))
  pub moved : Shows lost0 lost1 won0 won1 (shown_rows es) (shown_rows fs)
  pub fits : (p : List Datum → Bool) → failing p (bare (kept_rows es)) ≡ 0 → failing (λ x. p x.cells) now ≡ 0 →
      failing p won0 ≡ 0 → failing p won1 ≡ 0
  pub named : unsettled most es ≡ 0 → failing (λ e. is_settled most e.1 || is_named columns now e.0) fs ≡ 0

-- the keys of so many edges were settled
pub record HasSettledKeys (columns : List ℕ) (by most : ℕ) (now : List Edge) (i : ℕ)
    (lost0 lost1 won0 won1 : List (List Datum)) (es fs : List TopEntry) : Type 0 where
  pub kept : AreTopRows columns by es → AreTopRows columns by fs
  pub rows : (w : HeldRow → ℕ) → total w (kept_rows fs) ≡ total w (kept_rows es)
  pub moved : Shows lost0 lost1 won0 won1 (shown_rows es) (shown_rows fs)
  pub fits : (p : List Datum → Bool) → failing p (bare (kept_rows es)) ≡ 0 → failing p won0 ≡ 0 → failing p won1 ≡ 0
  pub named : failing (λ e. is_settled most e.1 || is_named columns now e.0) es ≡ 0 →
      failing (λ e. is_settled most e.1 || is_named columns (drop i now) e.0) fs ≡ 0

-- the rows of an instant's edges came and went, and all keys are settled again
pub record HasPassed (columns : List ℕ) (by most : ℕ) (now : List Edge) (lost0 lost1 won0 won1 : List (List Datum))
    (es fs : List TopEntry) : Type 0 where
  pub kept : AreTopRows columns by es → AreTopRows columns by fs
  pub rows : AreTopRows columns by es → ((w : HeldRow → ℕ) → total w (ended_rows now) ≤ total w (kept_rows es)) → (w : HeldRow → ℕ) →
      total w (kept_rows fs) + total w (ended_rows now) ≡ total w (kept_rows es) + total w (started_rows now)
  pub more : (w : HeldRow → ℕ) → total w (kept_rows fs) ≤ total w (kept_rows es) + total w (started_rows now)
  pub moved : Shows lost0 lost1 won0 won1 (shown_rows es) (shown_rows fs)
  pub fits : (p : List Datum → Bool) → failing p (bare (kept_rows es)) ≡ 0 → failing (λ x. p x.cells) now ≡ 0 →
      failing p won0 ≡ 0 → failing p won1 ≡ 0
  pub settled : unsettled most es ≡ 0 → unsettled most fs ≡ 0
  pub apart : IsDistinct same_cells (keys_of fs)
