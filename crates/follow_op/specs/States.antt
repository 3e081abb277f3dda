-- What a Follow keeps between its steps, and what it saves.
use Rattle.std.specs.Prelude.{◌≡◌, ℕ, ◌≤◌, min, Bool, true, false, List, [], length, map, filter, All}
use Rattle.std.specs.List.{list_all}
use Rattle.tw_rows.specs.Bag.{SameBag}
use Rattle.tw_rows.specs.Cells.{datum_kind}
use Rattle.tw_rows.specs.Kinds.{cell_kind_of}
use Rattle.tw_rows.specs.Instant.{inf}
use Rattle.tw_rows.specs.declared.edge.Edge.{Edge}
use Rattle.tw_rows.specs.declared.edge.HeldRow.{HeldRow}
use Rattle.tw_rows.specs.declared.kind.Kind.{Kind}
use Rattle.tw_rows.specs.declared.kind.CellKind.{CellKind}
use Rattle.edge_history.specs.Order.{failing, Rises, IsHistory}
use Rattle.edge_history.specs.History.{of}
use Rattle.edge_history.specs.Opens.{is_start}
use Rattle.edge_stream.specs.declared.saved.SavedEntry.{SavedEntry}
use Rattle.end_queue.specs.Pending.{Pending}
use Rattle.edge_stream.specs.Entries.{part_of, are_of_parts}
use Rattle.plan_laws.specs.Places.{EdgesArePlaced}
use Rattle.sweep_sides.specs.Waiting.{queued, AreTimed}
use Rattle.sweep_sides.specs.Sides.{IsSide}
use Rattle.sweep_sides.specs.Starts.{starts_from}
use Rattle.sweep_laws.specs.Saving.{rows_of, are_row_starts, may_all_wait}
use Rattle.sweep_laws.specs.Waits.{as_interval, starts_below}
use Rattle.follow_op.specs.Followed.{follows}
use Rattle.follow_op.specs.Waits.{FollowHeld}
use Rattle.follow_op.specs.declared.sides.FollowSides.{FollowSides}

-- it can be what is left, swept up to a time, after the edges hl and hr came in
pub record SidesKeep (s : FollowSides) (to : ℕ) (hl hr : List Edge) : Type 0 where
  pub left_timed : AreTimed s.left_waiting
  pub right_timed : AreTimed s.right_waiting
  pub left_history : IsHistory hl
  pub right_history : IsHistory hr
  pub left_waits : SameBag (queued s.left_waiting) (starts_from to hl)
  pub right_waits : SameBag (queued s.right_waiting) (starts_from to hr)
  pub now : FollowHeld s.rows.left.key s.rows.right_key.columns s.rows.within (of hl) (of hr) to to s.rows.left.rows s.rows.queue.items

-- left rows that began before a time, and starts of both sides from it on, of such columns
pub record AreSides (left_kinds right_kinds : List CellKind) (to : ℕ) (s : FollowSides) : Type 0 where
  pub left : IsSide left_kinds to s.rows.left.rows s.left_waiting
  pub right : IsSide right_kinds to [] s.right_waiting
  pub left_starts : failing is_start (queued s.left_waiting) ≡ 0
  pub right_starts : failing is_start (queued s.right_waiting) ≡ 0

-- the same of a Follow that works
pub record IsWorking (s : FollowSides) (left_kinds right_kinds own_kinds : List Kind) (capacity to : ℕ) : Type 0 where
  pub sides : AreSides (map cell_kind_of left_kinds) (map cell_kind_of right_kinds) to s
  pub width : length own_kinds ≤ 32
  pub room : 1 ≤ capacity

-- the rows, the queue and the starts that wait can be what is left after the edges hl and hr came in, closed up to x on the
-- left and to y on the right, and out was answered: swept up to the lesser of both. What was answered are the events that
-- start before it. Within 5, of a start at 3 on the left, closed up to 4, and one at 5 on the right, closed up to 7, the left
-- row is kept, and the right start waits
pub record KeepsFollow (left_key right_key : List ℕ) (within : ℕ) (left_kinds right_kinds : List CellKind) (texts : List (List ℕ)) (x y : ℕ)
    (rows queue : List HeldRow) (left_waiting right_waiting hl hr out : List Edge) : Type 0 where
  pub left_history : IsHistory hl
  pub right_history : IsHistory hr
  pub left_placed : EdgesArePlaced texts hl
  pub right_placed : EdgesArePlaced texts hr
  pub left_cells : All (λ e. map datum_kind e.cells ≡ left_kinds) hl
  pub right_cells : All (λ e. map datum_kind e.cells ≡ right_kinds) hr
  pub left_low : x ≤ inf
  pub right_low : y ≤ inf
  pub left_waits : SameBag left_waiting (starts_from (min x y) hl)
  pub right_waits : SameBag right_waiting (starts_from (min x y) hr)
  pub now : FollowHeld left_key right_key within (of hl) (of hr) (min x y) (min x y) rows queue
  pub order : Rises 0 out
  pub answered : SameBag out (map as_interval (filter (starts_below (min x y)) (follows left_key right_key within (of hl) (of hr))))

-- no row is kept, no start waits, no side is closed, and no step failed
pub record IsOpening (rows queue : List HeldRow) (left_waiting right_waiting : List Pending) (x y : ℕ) (failed : Bool) : Type 0 where
  pub no_rows : rows ≡ []
  pub no_queue : queue ≡ []
  pub none_left : left_waiting ≡ []
  pub none_right : right_waiting ≡ []
  pub left_open : x ≡ 0
  pub right_open : y ≡ 0
  pub works : failed ≡ false

-- the entries are of three parts: 0, left rows that began before a time, as their starts, 1, left starts that wait from it on,
-- and 2, right starts that do. Up to 7, a row may have begun at 6, and none at 7
pub record FollowSound (left_kinds right_kinds : List CellKind) (to : ℕ) (entries : List SavedEntry) : Type 0 where
  pub parts : are_of_parts 3 entries ≡ true
  pub left : are_row_starts left_kinds to (part_of 0 entries) ≡ true
  pub left_waiting : may_all_wait left_kinds to (part_of 1 entries) ≡ true
  pub left_starts : list_all is_start (part_of 1 entries) ≡ true
  pub right_waiting : may_all_wait right_kinds to (part_of 2 entries) ≡ true
  pub right_starts : list_all is_start (part_of 2 entries) ≡ true

-- the entries are what is kept after the edges came in and were answered, with some queue of the rows
pub record FollowResumes (left_key right_key : List ℕ) (within : ℕ) (left_kinds right_kinds : List CellKind) (texts : List (List ℕ)) (x y : ℕ)
    (entries : List SavedEntry) (hl hr out : List Edge) : Type 0 where
  pub sound : FollowSound left_kinds right_kinds (min x y) entries
  pub queue : List HeldRow
  pub keeps : KeepsFollow left_key right_key within left_kinds right_kinds texts x y (rows_of (part_of 0 entries)) queue
      (part_of 1 entries) (part_of 2 entries) hl hr out
