-- What a Session holds just before an instant, and has reached on its way from instant to instant.
use Rattle.std.specs.Prelude.{◌≡◌, ◌⊎◌, ℕ, ◌≤◌, Option, Some, List, [], ◌∷◌, filter}
use Rattle.tw_rows.specs.Instant.{inf}
use Rattle.tw_rows.specs.Bag.{SameBag}
use Rattle.tw_rows.specs.SameCells.{same_cells}
use Rattle.tw_rows.specs.declared.cells.Datum.{Datum}
use Rattle.tw_rows.specs.declared.edge.Edge.{Edge}
use Rattle.tw_rows.specs.declared.edge.HeldRow.{HeldRow}
use Rattle.edge_history.specs.Order.{failing, IsHistory}
use Rattle.edge_history.specs.History.{CellEvent, of}
use Rattle.edge_history.specs.Balance.{Told}
use Rattle.end_queue.specs.Pending.{Pending}
use Rattle.synopsis.specs.Held.{key_of, is_of_key}
use Rattle.sweep_laws.specs.Sweeps.{IsDue, Tells, HeadFrom, StartsAt}
use Rattle.sweep_sides.specs.Starts.{starts_from}
use Rattle.sweep_laws.specs.Sessioning.{Sessioning}
use Rattle.session_window.specs.Lasts.{IsLastStart}
use Rattle.session_window.specs.Kept.{Await, waits_from}
use Rattle.session_window.specs.Windows.{windows}

-- just before t: the open rows, the last start of each key that has one, and an entry for each such key, none of an earlier time.
-- With timeout 5, at 6, of rows from 1 and 4 on: both rows, the last start 4, and an entry
pub record SessionHeld (columns : List ℕ) (timeout : ℕ) (a : List CellEvent) (t : ℕ) (rows : List HeldRow) (ends : List Pending) : Type 0 where
  pub last : List Datum → Option ℕ
  pub now : Sessioning (key_of columns) same_cells timeout a t rows last
  pub lasts : (key : List Datum) (s : ℕ) → last key ≡ Some s → IsLastStart s (filter (is_of_key columns key) rows)
  pub awaits : Await timeout columns rows ends
  pub later : failing (waits_from t) ends ≡ 0

-- the queue begins with an entry for the time
abbrev pub BeginsAt : ℕ → List Pending → Type 0
BeginsAt t [] = ⊥
BeginsAt t (p ∷ ps) = p.at ≡ t

-- the next time of edges and of entries: the lesser of those with which they begin, and infinity where there are none. With an
-- edge at 7 and an entry for 5 it is 5
pub record IsNextTime (t : ℕ) (rest : List Edge) (ends : List Pending) : Type 0 where
  pub of_edges : HeadFrom t rest
  pub of_ends : failing (waits_from t) ends ≡ 0
  pub found : (t ≡ inf) ⊎ (StartsAt t rest ⊎ BeginsAt t ends)

-- so far: up to u, with these edges left
pub record SessionReached (columns : List ℕ) (timeout : ℕ) (a : List CellEvent) (from u to : ℕ) (rest : List Edge)
    (rows : List HeldRow) (ends : List Pending) (before after : List Edge) : Type 0 where
  pub low : from ≤ u
  pub due : IsDue a u to rest
  pub now : SessionHeld columns timeout a u rows ends
  pub told : Tells (windows columns timeout a) from u before after

-- what a Session keeps after the edges came in and out was answered: it is swept up to `to`, and the starts from then on wait.
-- Ends that came in are kept nowhere. Of [1, 2) and [4, 5) with timeout 5, closed up to 8: both rows, with no end
pub record SessionKeeps (columns : List ℕ) (timeout : ℕ) (rows : List HeldRow) (ends : List Pending) (waiting : List Edge) (to : ℕ) (came out : List Edge) : Type 0 where
  pub history : IsHistory came
  pub waits : SameBag waiting (starts_from to came)
  pub now : SessionHeld columns timeout (of came) to rows ends
  pub told : Told to out (windows columns timeout (of came))
