-- Which keys no right row has, and since when.
use Rattle.std.specs.Prelude.{ℕ, max, nat_eq, Bool, cond, Option, Some, None, List}
use Rattle.tw_rows.specs.Bag.{total}
use Rattle.tw_rows.specs.Instant.{inf}
use Rattle.tw_rows.specs.declared.cells.Datum.{Datum}
use Rattle.tw_rows.specs.declared.edge.Edge.{Edge}
use Rattle.tw_rows.specs.declared.edge.HeldRow.{HeldRow}
use Rattle.edge_history.specs.Order.{many}
use Rattle.synopsis.specs.Held.{is_of_key}

-- no right row has these data in its key. With right rows of the keys 5 and 6, the key 7 is free
abbrev pub is_free_key : List ℕ → List HeldRow → List Datum → Bool
is_free_key right_key right key = nat_eq (many (is_of_key right_key key) right) 0

-- the time since which a free key is free: the start of the row that is kept for it, and 0 where none is. Of a key whose last
-- right row ended at 8 it is 8
abbrev pub free_since : List ℕ → List HeldRow → List Datum → ℕ
free_since left_key times key = total (λ r. cond (is_of_key left_key key r) r.start 0) times

-- since when a key is free: None where it is not
abbrev pub status_of : List ℕ → List ℕ → List HeldRow → List HeldRow → List Datum → Option ℕ
status_of left_key right_key right times key = cond (is_free_key right_key right key) (Some (free_since left_key times key)) None

-- key columns, and a row for each key of which a time is kept: the time is its start
pub record KeyTimes : Type 0 where
  pub key : List ℕ
  pub rows : List HeldRow

-- the other time of an edge that is told of a left row: of an end the start of the run, which is no earlier than the row and
-- than the time since which its key is free; of a start infinity. Of a row from 3 on whose key is free since 5: 5
abbrev pub other_since : Option ℕ → ℕ → ℕ
other_since None start = inf
other_since (Some s) start = max start s

-- what is told at t of a left row: the end of its run, or the start of one
abbrev pub told_since : Option ℕ → ℕ → HeldRow → Edge
told_since since t r = record { sync = t; other = other_since since r.start; cells = r.cells }
