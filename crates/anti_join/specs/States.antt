-- What an anti-join keeps between its steps, and what it saves.
use Rattle.std.specs.Prelude.{◌≡◌, ℕ, ◌≤◌, true, List, []}
use Rattle.tw_rows.specs.declared.cells.Datum.{Datum}
use Rattle.tw_rows.specs.declared.edge.Edge.{Edge}
use Rattle.tw_rows.specs.declared.kind.CellKind.{CellKind}
use Rattle.edge_history.specs.Order.{many}
use Rattle.edge_stream.specs.declared.saved.SavedEntry.{SavedEntry}
use Rattle.edge_stream.specs.Entries.{part_of, are_of_parts}
use Rattle.synopsis.specs.Held.{is_of_key}
use Rattle.sweep_sides.specs.Waiting.{queued, AreTimed}
use Rattle.sweep_sides.specs.Sides.{IsSide}
use Rattle.sweep_laws.specs.Saving.{are_row_starts, may_all_wait, HaveBegun}
use Rattle.anti_join.specs.declared.sides.AntiSides.{AntiSides}
use Rattle.anti_join.specs.Times.{HaveOneTime}
use Rattle.anti_join.specs.Holding.{AntiKeeps}
use Rattle.anti_join.specs.Rows.{AreByKey}

-- it can be what is left, swept up to a time, after the edges hl and hr came in on both sides and out was answered.
-- Of the times no key has two
pub record SidesKeep (s : AntiSides) (to : ℕ) (hl hr out : List Edge) : Type 0 where
  pub by : AreByKey s.rows
  pub left_timed : AreTimed s.left_waiting
  pub right_timed : AreTimed s.right_waiting
  pub kept : AntiKeeps s.rows.left.key s.rows.right.key s.rows.left.rows s.rows.right.rows s.rows.times.rows
      (queued s.left_waiting) (queued s.right_waiting) to hl hr out
  pub single : (k : List Datum) → many (is_of_key s.rows.left.key k) s.rows.times.rows ≤ 1

-- rows that began before a time, and edges from it on, of such columns, on each side; times before it, as the starts of left rows
pub record AreSides (left_kinds right_kinds : List CellKind) (to : ℕ) (s : AntiSides) : Type 0 where
  pub left : IsSide left_kinds to s.rows.left.rows s.left_waiting
  pub right : IsSide right_kinds to s.rows.right.rows s.right_waiting
  pub times : HaveBegun left_kinds to s.rows.times.rows

-- and they are found by the key columns
pub record SidesFit (left_kinds right_kinds : List CellKind) (to : ℕ) (s : AntiSides) : Type 0 where
  pub by : AreByKey s.rows
  pub sides : AreSides left_kinds right_kinds to s

-- it keeps nothing, by the key columns of its rows
pub record IsEmpty (s : AntiSides) : Type 0 where
  pub by : AreByKey s.rows
  pub left : s.rows.left.rows ≡ []
  pub right : s.rows.right.rows ≡ []
  pub times : s.rows.times.rows ≡ []
  pub none_left : s.left_waiting ≡ []
  pub none_right : s.right_waiting ≡ []

-- the entries are of five parts: 0 and 1, rows of the left and of the right side that began before a time, as their starts, 2
-- and 3, edges of these sides that wait from it on, and 4, times before it, as the starts of left rows of their keys. Up to 7, a
-- row may have begun at 6, and none at 7
pub record AntiStored (left_kinds right_kinds : List CellKind) (to : ℕ) (entries : List SavedEntry) : Type 0 where
  pub parts : are_of_parts 5 entries ≡ true
  pub left : are_row_starts left_kinds to (part_of 0 entries) ≡ true
  pub right : are_row_starts right_kinds to (part_of 1 entries) ≡ true
  pub left_waiting : may_all_wait left_kinds to (part_of 2 entries) ≡ true
  pub right_waiting : may_all_wait right_kinds to (part_of 3 entries) ≡ true
  pub times : are_row_starts left_kinds to (part_of 4 entries) ≡ true

-- and no key has two times. Up to 9, of a left row since 2 whose key is free since 8: the start at 2, and the time 8
pub record AntiSound (left_key : List ℕ) (left_kinds right_kinds : List CellKind) (to : ℕ) (entries : List SavedEntry) : Type 0 where
  pub stored : AntiStored left_kinds right_kinds to entries
  pub single : HaveOneTime left_key (part_of 4 entries)
