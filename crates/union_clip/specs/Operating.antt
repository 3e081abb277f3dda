-- The sweep of a Clip: its node, and what it keeps, as entries.
use Rattle.std.specs.Prelude.{ℕ, nat_eq, cond, Option, Some, None, ◌+◌, length, List}
use Rattle.tw_rows.specs.declared.edge.Edge.{Edge}
use Rattle.edge_stream.specs.declared.saved.PartRow.{PartRow}
use Rattle.edge_stream.specs.declared.saved.PartRow.TheVariants.{Left, Right}
use Rattle.edge_stream.specs.declared.saved.SavedEntry.{SavedEntry}
use Rattle.edge_stream.specs.Entries.{part_of}
use Rattle.plan_model.specs.declared.node.Node.{Node}
use Rattle.plan_model.specs.declared.node.Node.TheVariants.{Clip as ClipNode}
use Rattle.sweep_laws.specs.Saving.{rows_of}
use Rattle.union_clip.specs.declared.sides.ClipSides.{ClipSides}
use Rattle.union_clip.specs.Holding.{ClipKeeps}

abbrev pub clip_node : ClipSides → Node
clip_node s = ClipNode 0 1 s.rows.left.key s.rows.right_key.columns

-- how many entries it keeps: one for each left row, and one for each edge that waits
abbrev pub clip_entries : ClipSides → ℕ
clip_entries s = length s.rows.left.rows + length s.left_waiting + length s.right_waiting

-- saved entries are what it keeps up to a time, after the edges hl and hr came in and out was answered
abbrev pub Resumes : ClipSides → List SavedEntry → ℕ → List Edge → List Edge → List Edge → Type 0
Resumes s saved to hl hr out =
    ClipKeeps s.rows.left.key s.rows.right_key.columns (rows_of (part_of 0 saved)) (part_of 1 saved) (part_of 2 saved) to hl hr out

-- whose row the cells of a part are
abbrev pub clip_row : ℕ → Option PartRow
clip_row part = cond (nat_eq part 0) (Some Left) (cond (nat_eq part 1) (Some Left) (cond (nat_eq part 2) (Some Right) None))
