-- What a Top keeps between its steps, and what it saves.
use Rattle.std.specs.Prelude.{◌≡◌, ℕ, ◌≤◌, true, List, filter}
use Rattle.tw_rows.specs.Bag.{SameBag}
use Rattle.tw_rows.specs.Instant.{inf}
use Rattle.tw_rows.specs.declared.edge.Edge.{Edge}
use Rattle.tw_rows.specs.declared.edge.HeldRow.{HeldRow}
use Rattle.tw_rows.specs.declared.kind.CellKind.{CellKind}
use Rattle.edge_history.specs.Balance.{Told}
use Rattle.edge_history.specs.Order.{is_from, IsHistory}
use Rattle.edge_history.specs.History.{of}
use Rattle.edge_history.specs.Opens.{opens, singles}
use Rattle.edge_stream.specs.declared.saved.SavedEntry.{SavedEntry}
use Rattle.edge_stream.specs.Entries.{part_of, are_of_parts}
use Rattle.synopsis.specs.Queued.{AreQueues}
use Rattle.sweep_laws.specs.Saving.{are_row_starts, may_all_wait}
use Rattle.outer_top.specs.TopEvents.{tops_at, tops}

-- the rows, the edges that wait and the open starts of the rows that are shown can be what is left, swept up to a time, after
-- the edges came in and out was answered. Of a Top 1 of a row with 5 from 1 on and one with 7 from 3 on, up to 4, both rows are
-- kept, and the open start 3 of the second
pub record TopKeeps (columns : List ℕ) (by most : ℕ) (rows : List HeldRow) (waiting : List Edge) (shown : List HeldRow) (to : ℕ)
    (came out : List Edge) : Type 0 where
  pub low : to ≤ inf
  pub history : IsHistory came
  pub waits : SameBag waiting (filter (is_from to) (singles came))
  pub rows_are : SameBag rows (opens to (of came))
  pub queues : AreQueues (tops_at columns by most (of came)) to shown
  pub told : Told to out (tops columns by most (of came))

-- the entries are of three parts: 0, rows that began before x, as their starts, 1, edges that wait from it on, and 2, the open
-- starts of rows that are shown. Up to 7, a row may have begun at 6, and none at 7
pub record TopSound (kinds : List CellKind) (x : ℕ) (entries : List SavedEntry) : Type 0 where
  pub parts : are_of_parts 3 entries ≡ true
  pub rows : are_row_starts kinds x (part_of 0 entries) ≡ true
  pub waiting : may_all_wait kinds x (part_of 1 entries) ≡ true
  pub shown : are_row_starts kinds x (part_of 2 entries) ≡ true
