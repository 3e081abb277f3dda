-- The sweep of a Join: its node, and what it keeps, as entries.
use Rattle.std.specs.Prelude.{ℕ, nat_eq, cond, Option, Some, None, ◌+◌, length, List}
use Rattle.tw_rows.specs.declared.edge.Edge.{Edge}
use Rattle.edge_stream.specs.declared.saved.PartRow.{PartRow}
use Rattle.edge_stream.specs.declared.saved.PartRow.TheVariants.{Left, Right}
use Rattle.edge_stream.specs.declared.saved.SavedEntry.{SavedEntry}
use Rattle.edge_stream.specs.Entries.{part_of}
use Rattle.plan_model.specs.declared.node.Node.{Node}
use Rattle.plan_model.specs.declared.node.Node.TheVariants.{Join as JoinNode}
use Rattle.plan_model.specs.Keys.{paired_row}
use Rattle.sweep_laws.specs.Joining.{JoinKeeps}
use Rattle.sweep_laws.specs.Saving.{rows_of}
use Rattle.temporal_join.specs.declared.sides.JoinSides.{JoinSides}
use Rattle.temporal_join.specs.Joined.{join_meets}
use Rattle.temporal_join.specs.States.{left_rows, right_rows, left_pending, right_pending}

abbrev pub join_node : JoinSides → Node
join_node s = JoinNode 0 1 s.rows.left_key.items s.rows.right_key.items

-- how many entries it keeps: one for each row, and one for each edge that is pending
abbrev pub join_entries : JoinSides → ℕ
join_entries s = (length (left_rows s) + length (left_pending s)) + (length (right_rows s) + length (right_pending s))

-- saved entries are what it keeps up to a time, after the edges hl and hr came in and out was answered
abbrev pub Resumes : JoinSides → List SavedEntry → ℕ → List Edge → List Edge → List Edge → Type 0
Resumes s saved to hl hr out =
    JoinKeeps (join_meets s.rows.left_key.items s.rows.right_key.items) (paired_row s.rows.right_key.items) (rows_of (part_of 0 saved)) (rows_of (part_of 1 saved))
    (part_of 2 saved) (part_of 3 saved) to hl hr out

-- whose row the cells of a part are
abbrev pub join_row : ℕ → Option PartRow
join_row part = cond (nat_eq part 0) (Some Left) (cond (nat_eq part 1) (Some Right) (cond (nat_eq part 2) (Some Left) (cond (nat_eq part 3) (Some Right) None)))
