-- What a clip keeps between its steps, and what it saves.
use Rattle.std.specs.Prelude.{◌≡◌, ℕ, true, List, []}
use Rattle.std.specs.List.{list_all}
use Rattle.tw_rows.specs.declared.edge.Edge.{Edge}
use Rattle.tw_rows.specs.declared.kind.CellKind.{CellKind}
use Rattle.edge_history.specs.Order.{failing}
use Rattle.edge_history.specs.Opens.{is_start}
use Rattle.edge_stream.specs.declared.saved.SavedEntry.{SavedEntry}
use Rattle.edge_stream.specs.Entries.{part_of, are_of_parts}
use Rattle.sweep_sides.specs.Waiting.{queued, AreTimed}
use Rattle.sweep_sides.specs.Sides.{IsSide}
use Rattle.sweep_laws.specs.Saving.{are_row_starts, may_all_wait}
use Rattle.union_clip.specs.declared.sides.ClipSides.{ClipSides}
use Rattle.union_clip.specs.Holding.{ClipKeeps}

-- it can be what is left, swept up to a time, after the edges hl and hr came in on both sides and out was answered
pub record SidesKeep (s : ClipSides) (to : ℕ) (hl hr out : List Edge) : Type 0 where
  pub left_timed : AreTimed s.left_waiting
  pub right_timed : AreTimed s.right_waiting
  pub kept : ClipKeeps s.rows.left.key s.rows.right_key.columns s.rows.left.rows (queued s.left_waiting) (queued s.right_waiting) to hl hr out

-- left rows that began before a time, left edges and right starts from it on, of such columns
pub record AreSides (left_kinds right_kinds : List CellKind) (to : ℕ) (s : ClipSides) : Type 0 where
  pub left : IsSide left_kinds to s.rows.left.rows s.left_waiting
  pub right : IsSide right_kinds to [] s.right_waiting
  pub right_starts : failing is_start (queued s.right_waiting) ≡ 0

-- it keeps nothing, by the key columns of its rows
pub record IsEmpty (s : ClipSides) : Type 0 where
  pub left : s.rows.left.rows ≡ []
  pub none_left : s.left_waiting ≡ []
  pub none_right : s.right_waiting ≡ []
  pub by_key : s.left_key.items ≡ s.rows.left.key

-- the entries are of three parts: 0, left rows that began before a time, as their starts, 1, left edges that wait from it on,
-- and 2, right starts that do. Up to 7, a row may have begun at 6, and none at 7
pub record ClipSound (left_kinds right_kinds : List CellKind) (to : ℕ) (entries : List SavedEntry) : Type 0 where
  pub parts : are_of_parts 3 entries ≡ true
  pub left : are_row_starts left_kinds to (part_of 0 entries) ≡ true
  pub left_waiting : may_all_wait left_kinds to (part_of 1 entries) ≡ true
  pub right_waiting : may_all_wait right_kinds to (part_of 2 entries) ≡ true
  pub right_starts : list_all is_start (part_of 2 entries) ≡ true
