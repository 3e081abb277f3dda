-- The rows of both sides of an anti-join, by their keys.
use Rattle.std.specs.Prelude.{◌≡◌, ℕ, ◌<◌, ◌≤◌, ◌&&◌, not, Bool, cond, Option, List}
use Rattle.tw_rows.specs.SameCells.{same_cells}
use Rattle.tw_rows.specs.declared.cells.Datum.{Datum}
use Rattle.tw_rows.specs.declared.edge.Edge.{Edge}
use Rattle.tw_rows.specs.declared.edge.HeldRow.{HeldRow}
use Rattle.tw_rows.specs.declared.kind.CellKind.{CellKind}
use Rattle.edge_history.specs.Order.{many}
use Rattle.synopsis.specs.Held.{key_of, is_of_key}
use Rattle.sweep_laws.specs.Saving.{HaveBegun}
use Rattle.sweep_laws.specs.Antijoining.{flip_end, flip_start}
use Rattle.anti_join.specs.declared.sweep.AntiRows.{AntiRows}
use Rattle.anti_join.specs.Free.{is_free_key, free_since, status_of}

-- the rows of each side are found by its key, and times are kept by the left one
pub record AreByKey (r : AntiRows) : Type 0 where
  pub left : r.left_key.columns ≡ r.left.key
  pub right : r.right_key.columns ≡ r.right.key
  pub times : r.times.key ≡ r.left.key

-- the keys stay
pub record SameKeys (old new : AntiRows) : Type 0 where
  pub left_key : new.left_key.columns ≡ old.left_key.columns
  pub right_key : new.right_key.columns ≡ old.right_key.columns
  pub left : new.left.key ≡ old.left.key
  pub right : new.right.key ≡ old.right.key
  pub times : new.times.key ≡ old.times.key

-- the key of a left row
abbrev pub left_key_of : AntiRows → HeldRow → List Datum
left_key_of rows r = key_of rows.left.key r.cells

-- since when a key is free: None where it is not
abbrev pub status : AntiRows → List Datum → Option ℕ
status rows key = status_of rows.left.key rows.right.key rows.right.rows rows.times.rows key

-- no right row has the key
abbrev pub free : AntiRows → List Datum → Bool
free rows key = is_free_key rows.right.key rows.right.rows key

-- what is told at t of a left row where the right rows became others: the end of its run where its key is free no more, and
-- a start where it is free again
abbrev pub ends_told : ℕ → AntiRows → AntiRows → HeldRow → List Edge
ends_told t old new r = flip_end (is_free_key old.right.key new.right.rows (left_key_of old r)) (status old (left_key_of old r)) t r

abbrev pub starts_told : ℕ → AntiRows → AntiRows → HeldRow → List Edge
starts_told t old new r = flip_start (is_free_key old.right.key new.right.rows (left_key_of old r)) (status old (left_key_of old r)) t r

-- the time that is kept of a key, and how many are
abbrev pub time_of : AntiRows → AntiRows → List Datum → ℕ
time_of old new k = free_since old.left.key new.times.rows k

abbrev pub times_of : AntiRows → AntiRows → List Datum → ℕ
times_of old new k = many (is_of_key old.left.key k) new.times.rows

abbrev pub lefts_of : AntiRows → List Datum → ℕ
lefts_of rows k = many (is_of_key rows.left.key k) rows.left.rows

-- of the keys of left rows one is free since t, or all those that became free are. No time is kept anew of another key
pub record SetsTime (key : List Datum) (t : ℕ) (old new : AntiRows) : Type 0 where
  pub since : (k : List Datum) → 1 ≤ lefts_of old k → time_of old new k ≡ cond (same_cells key k) t (time_of old old k)
  pub early : (k : List Datum) → time_of old old k ≤ t → time_of old new k ≤ t
  pub few : (k : List Datum) → lefts_of old k ≡ 0 → times_of old new k ≤ times_of old old k

pub record SetsTimes (t : ℕ) (old new : AntiRows) : Type 0 where
  pub since : (k : List Datum) → 1 ≤ lefts_of old k →
      time_of old new k ≡ cond (not (free old k) && is_free_key old.right.key new.right.rows k) t (time_of old old k)
  pub early : (k : List Datum) → time_of old old k ≤ t → time_of old new k ≤ t
  pub few : (k : List Datum) → lefts_of old k ≡ 0 → times_of old new k ≤ times_of old old k

-- times are forgotten, and none of a key that has a left row
pub record ForgetsTimes (old new : AntiRows) : Type 0 where
  pub same : (k : List Datum) → 1 ≤ lefts_of old k → time_of old new k ≡ time_of old old k
  pub less : (k : List Datum) → time_of old new k ≤ time_of old old k
  pub fewer : (k : List Datum) → times_of old new k ≤ times_of old old k

-- a time that is kept anew is t, of the key of a left row: where the left rows and those whose starts are the times began before
-- a time after t, the latter still do
abbrev pub TimesBegin : ℕ → AntiRows → AntiRows → Type 0
TimesBegin t old new = (kinds : List CellKind) (to : ℕ) → t < to → HaveBegun kinds to old.left.rows → HaveBegun kinds to old.times.rows →
    HaveBegun kinds to new.times.rows
