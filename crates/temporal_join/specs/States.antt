-- What a join keeps between its steps, and what it saves.
use Rattle.std.specs.Prelude.{◌≡◌, ℕ, ◌+◌, true, List, [], ◌++◌}
use Rattle.tw_rows.specs.declared.edge.Edge.{Edge}
use Rattle.tw_rows.specs.Bag.{total}
use Rattle.tw_rows.specs.declared.edge.HeldRow.{HeldRow}
use Rattle.tw_rows.specs.declared.kind.CellKind.{CellKind}
use Rattle.edge_history.specs.History.{CellEvent}
use Rattle.edge_history.specs.Opens.{singles, started_rows}
use Rattle.edge_history.specs.Order.{failing, is_below, is_from}
use Rattle.end_queue.specs.Pending.{Pending}
use Rattle.edge_stream.specs.declared.saved.SavedEntry.{SavedEntry}
use Rattle.edge_stream.specs.Entries.{part_of, are_of_parts}
use Rattle.plan_model.specs.Keys.{paired_row}
use Rattle.sweep_laws.specs.Changes.{TakeAtMost}
use Rattle.sweep_laws.specs.Joining.{JoinKeeps}
use Rattle.sweep_laws.specs.Pairs.{Held}
use Rattle.sweep_laws.specs.Sweeps.{SyncsRise, IsDue, Tells}
use Rattle.sweep_sides.specs.Waiting.{queued, AreTimed}
use Rattle.sweep_sides.specs.Sides.{IsSide}
use Rattle.sweep_laws.specs.Saving.{are_row_starts, may_all_wait}
use Rattle.temporal_join.specs.declared.sides.JoinSides.{JoinSides}
use Rattle.temporal_join.specs.Few.{AreLivesByKey}
use Rattle.temporal_join.specs.Joined.{join_meets, joins}
use Rattle.temporal_join.specs.Kept.{AreByKey}
use Rattle.temporal_join.specs.Lives.{life_rows, life_waits}

-- the rows of each side that are alive: those by their keys, and those with their ends
abbrev pub left_rows : JoinSides → List HeldRow
left_rows s = s.rows.left.rows ++ life_rows s.few.left.lives

abbrev pub right_rows : JoinSides → List HeldRow
right_rows s = s.rows.right.rows ++ life_rows s.few.right.lives

-- what is pending of each side: the edges of its queue, and the ends that are known of its rows
abbrev pub left_pending : JoinSides → List Pending
left_pending s = s.left_waiting ++ life_waits s.few.left.lives

abbrev pub right_pending : JoinSides → List Pending
right_pending s = s.right_waiting ++ life_waits s.few.right.lives

-- all rows are held by the key of their side
pub record AreKeyed (s : JoinSides) : Type 0 where
  pub by : AreByKey s.rows
  pub few : AreLivesByKey s.few
  pub left_key : s.few.left_key.items ≡ s.rows.left_key.items
  pub right_key : s.few.right_key.items ≡ s.rows.right_key.items

-- it can be what is left, swept up to a time, after the edges hl and hr came in on both sides and out was answered
pub record SidesKeep (s : JoinSides) (to : ℕ) (hl hr out : List Edge) : Type 0 where
  pub by : AreKeyed s
  pub left_timed : AreTimed (left_pending s)
  pub right_timed : AreTimed (right_pending s)
  pub kept : JoinKeeps (join_meets s.rows.left_key.items s.rows.right_key.items) (paired_row s.rows.right_key.items) (left_rows s) (right_rows s)
      (queued (left_pending s)) (queued (right_pending s)) to hl hr out

-- rows that began before a time, and edges from it on, of such columns, on each side
pub record AreSides (left_kinds right_kinds : List CellKind) (to : ℕ) (s : JoinSides) : Type 0 where
  pub left : IsSide left_kinds to (left_rows s) (left_pending s)
  pub right : IsSide right_kinds to (right_rows s) (right_pending s)

-- it keeps nothing, by the key columns of its rows
pub record IsEmpty (s : JoinSides) : Type 0 where
  pub by : AreKeyed s
  pub left : left_rows s ≡ []
  pub right : right_rows s ≡ []
  pub none_left : left_pending s ≡ []
  pub none_right : right_pending s ≡ []

-- no row is held by its key, and no edge is pending but the ends of rows
pub record AreAllFew (s : JoinSides) : Type 0 where
  pub left : s.rows.left.rows ≡ []
  pub right : s.rows.right.rows ≡ []
  pub none_left : s.left_waiting ≡ []
  pub none_right : s.right_waiting ≡ []

-- the key columns stay
pub record SameColumns (old new : JoinSides) : Type 0 where
  pub left_key : new.rows.left_key ≡ old.rows.left_key
  pub right_key : new.rows.right_key ≡ old.rows.right_key
  pub few_left_key : new.few.left_key ≡ old.few.left_key
  pub few_right_key : new.few.right_key ≡ old.few.right_key
  pub left : new.rows.left.key ≡ old.rows.left.key
  pub right : new.rows.right.key ≡ old.rows.right.key
  pub few_left : new.few.left.columns ≡ old.few.left.columns
  pub few_right : new.few.right.columns ≡ old.few.right.columns

-- a step of a side: new edges came, and these single ones happened, each before a time
pub record SideStepped (to : ℕ) (first then : List HeldRow) (pending pending2 : List Pending) (new due : List Edge) : Type 0 where
  pub parts : (w : Edge → ℕ) → total w due + total w (queued pending2) ≡ total w (queued pending) + total w (singles new)
  pub below : failing (is_below to) due ≡ 0
  pub order : SyncsRise 0 due
  pub rest : failing (is_from to) (queued pending2) ≡ 0
  pub timed : AreTimed pending2
  pub rows : TakeAtMost first then (started_rows due)

-- a step of both sides
pub record Stepped (old new : JoinSides) (from to : ℕ) (left_new right_new before after : List Edge) : Type 0 where
  pub left_due : List Edge
  pub right_due : List Edge
  pub left : SideStepped to (left_rows old) (left_rows new) (left_pending old) (left_pending new) left_new left_due
  pub right : SideStepped to (right_rows old) (right_rows new) (right_pending old) (right_pending new) right_new right_due
  pub swept : (a b : List CellEvent) → AreKeyed old → IsDue a from to left_due → IsDue b from to right_due → Held a b from (left_rows old) (right_rows old) →
      Held a b to (left_rows new) (right_rows new) × Tells (joins old.rows.left_key.items old.rows.right_key.items a b) from to before after

-- the entries are of four parts: 0 and 1, rows of the left and of the right side that began before a time, as their starts, and
-- 2 and 3, edges of these sides that wait from it on. Up to 7, a row may have begun at 6, and none at 7
pub record JoinSound (left_kinds right_kinds : List CellKind) (to : ℕ) (entries : List SavedEntry) : Type 0 where
  pub parts : are_of_parts 4 entries ≡ true
  pub left : are_row_starts left_kinds to (part_of 0 entries) ≡ true
  pub right : are_row_starts right_kinds to (part_of 1 entries) ≡ true
  pub left_waiting : may_all_wait left_kinds to (part_of 2 entries) ≡ true
  pub right_waiting : may_all_wait right_kinds to (part_of 3 entries) ≡ true
