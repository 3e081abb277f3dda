-- The operator of a Follow: how it stands, and what it keeps.
use Rattle.std.specs.Prelude.{ℕ, nat_eq, cond, Option, Some, None, ◌+◌, min, length, List, map}
use Rattle.tw_rows.specs.Kinds.{cell_kind_of}
use Rattle.tw_rows.specs.declared.kind.CellKind.{CellKind}
use Rattle.edge_stream.specs.declared.saved.PartRow.{PartRow}
use Rattle.edge_stream.specs.declared.saved.PartRow.TheVariants.{Left, Right}
use Rattle.edge_stream.specs.declared.saved.SavedEntry.{SavedEntry}
use Rattle.plan_model.specs.declared.node.Node.TheVariants.{Follow as FollowNode}
use Rattle.edge_stream.specs.Standing.{Standing, Keeping}
use Rattle.sweep_sides.specs.Waiting.{queued}
use Rattle.follow_op.specs.declared.follow.Follow.{Follow}
use Rattle.follow_op.specs.States.{KeepsFollow, IsOpening, FollowSound, FollowResumes}

-- how the columns of the left and of the right side are stored
abbrev pub left_cells : Follow → List CellKind
left_cells f = map cell_kind_of f.left_kinds.items

abbrev pub right_cells : Follow → List CellKind
right_cells f = map cell_kind_of f.right_kinds.items

abbrev pub standing : Follow → Standing
standing f = record {
  node = FollowNode 0 1 f.sides.rows.left.key f.sides.rows.right_key.columns f.sides.rows.within;
  left_closed = f.left_to;
  right_closed = f.right_to;
  left_kinds = left_cells f;
  right_kinds = right_cells f;
  own_kinds = map cell_kind_of f.own_kinds.items;
  batch_rows = f.capacity;
  has_failed = f.failed;
}

-- how many entries it keeps: one for each row that waits, one for each row of the queue, and one for each start that waits
abbrev pub entries : Follow → ℕ
entries f =
    length f.sides.rows.left.rows + length f.sides.left_waiting + length f.sides.rows.queue.items + length f.sides.right_waiting

-- it stands as it was made
abbrev pub IsNew : Follow → Type 0
IsNew f =
    IsOpening f.sides.rows.left.rows f.sides.rows.queue.items f.sides.left_waiting f.sides.right_waiting f.left_to f.right_to f.failed

-- it is what is left after the edges hl and hr came in and out was answered
abbrev pub IsKept : Follow → Keeping
IsKept f texts hl hr out =
    KeepsFollow f.sides.rows.left.key f.sides.rows.right_key.columns f.sides.rows.within (left_cells f) (right_cells f) texts f.left_to f.right_to
    f.sides.rows.left.rows f.sides.rows.queue.items (queued f.sides.left_waiting) (queued f.sides.right_waiting) hl hr out

-- saved entries can be its state, closed up to x and y
abbrev pub IsSound : Follow → List SavedEntry → ℕ → ℕ → Type 0
IsSound f saved x y = FollowSound (left_cells f) (right_cells f) (min x y) saved

-- they are what it keeps after the edges came in and were answered
abbrev pub Resumes : Follow → List SavedEntry → ℕ → ℕ → Keeping
Resumes f saved x y texts hl hr out =
    FollowResumes f.sides.rows.left.key f.sides.rows.right_key.columns f.sides.rows.within (left_cells f) (right_cells f) texts x y saved hl hr out

-- whose row the cells of a part are
abbrev pub row_of_part : ℕ → Option PartRow
row_of_part part = cond (nat_eq part 0) (Some Left) (cond (nat_eq part 1) (Some Left) (cond (nat_eq part 2) (Some Right) None))
