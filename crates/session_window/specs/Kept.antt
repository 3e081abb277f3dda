-- The open rows by key, and the times at which the ends of their sessions are looked at.
use Rattle.std.specs.Prelude.{◌≡◌, ℕ, ◌+◌, ◌≤◌, ◌&&◌, nat_eq, nat_lt, nat_le, Bool, false, cond, List, map}
use Rattle.tw_rows.specs.Bag.{total}
use Rattle.tw_rows.specs.Instant.{later}
use Rattle.tw_rows.specs.SameCells.{same_cells}
use Rattle.tw_rows.specs.declared.cells.Datum.{Datum}
use Rattle.tw_rows.specs.declared.edge.Edge.{Edge}
use Rattle.tw_rows.specs.declared.edge.HeldRow.{HeldRow}
use Rattle.edge_history.specs.Order.{many, failing}
use Rattle.end_queue.specs.Pending.{Pending}
use Rattle.synopsis.specs.Held.{is_of_key}
use Rattle.sweep_laws.specs.Moves.{Adds, told_at}

-- key columns, the data that the row that was put in last has in them, the rows, and the same rows key by key
pub record OpenRows : Type 0 where
  pub key : List ℕ
  pub values : List Datum
  pub rows : List HeldRow
  pub blocks : List (List HeldRow)

-- the entry waits for a key, whose data its edge has: for 5, and not for 6
abbrev pub is_for : List Datum → Pending → Bool
is_for key p = same_cells p.edge.cells key

-- the entry waits for the key until n
abbrev pub is_for_at : List Datum → ℕ → Pending → Bool
is_for_at key n p = same_cells p.edge.cells key && nat_eq p.at n

-- the row of the key keeps its session open before n. With timeout 5, a row from 3 on does so up to 8
abbrev pub keeps_to : ℕ → List ℕ → List Datum → ℕ → HeldRow → Bool
keeps_to timeout columns key n r = is_of_key columns key r && nat_le n (later timeout r.start)

-- the entry waits until a time or later
abbrev pub waits_from : ℕ → Pending → Bool
waits_from t p = nat_le t p.at

-- the entry waits until this time
abbrev pub is_placed_at : ℕ → Pending → Bool
is_placed_at t p = nat_eq p.at t

-- each key with a row has one entry, and no other key has one
abbrev pub HasOne : List ℕ → List HeldRow → List Pending → Type 0
HasOne columns rows ends = (key : List Datum) → many (is_for key) ends ≡ cond (nat_eq (many (is_of_key columns key) rows) 0) 0 1

-- each key with a row has one entry, and no other key has one; and no entry waits longer than the rows of its key keep their
-- session open. With timeout 5 and rows of a key from 3 and from 6 on, its entry may wait until 8 or 11, and not until 12
pub record Await (timeout : ℕ) (columns : List ℕ) (rows : List HeldRow) (ends : List Pending) : Type 0 where
  pub one : HasOne columns rows ends
  pub in_time : (key : List Datum) (n : ℕ) → 1 ≤ many (is_for_at key n) ends → 1 ≤ many (keeps_to timeout columns key n) rows

-- the entry waits until before a time
abbrev pub waits_below : ℕ → Pending → Bool
waits_below t p = nat_lt p.at t

-- the rows became others as sessions ended at t: all rows of their keys were taken out, none of which keeps its session open
-- after t, and their ends were emitted. With timeout 5, of rows of one key from 1 and 4 on: at 9 both ends, and no row is left
pub record Ends (timeout : ℕ) (columns : List ℕ) (t : ℕ) (before after : List HeldRow) (answer0 answer1 : List Edge) : Type 0 where
  pub ended : List HeldRow
  pub split : (w : HeldRow → ℕ) → total w before ≡ total w after + total w ended
  pub due : failing (λ r. nat_le (later timeout r.start) t) ended ≡ 0
  pub apart : (key : List Datum) → 1 ≤ many (is_of_key columns key) ended → many (is_of_key columns key) after ≡ 0
  pub told : Adds answer0 answer1 (map (told_at false t) ended)
