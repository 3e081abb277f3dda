-- The sweep of an Anti: its node, and what it keeps, as entries.
use Rattle.std.specs.Prelude.{ℕ, nat_eq, cond, Option, Some, None, ◌+◌, length, List}
use Rattle.tw_rows.specs.declared.edge.Edge.{Edge}
use Rattle.edge_stream.specs.declared.saved.PartRow.{PartRow}
use Rattle.edge_stream.specs.declared.saved.PartRow.TheVariants.{Left, Right}
use Rattle.edge_stream.specs.declared.saved.SavedEntry.{SavedEntry}
use Rattle.edge_stream.specs.Entries.{part_of}
use Rattle.plan_model.specs.declared.node.Node.{Node}
use Rattle.plan_model.specs.declared.node.Node.TheVariants.{Anti as AntiNode}
use Rattle.sweep_laws.specs.Saving.{rows_of}
use Rattle.anti_join.specs.declared.sides.AntiSides.{AntiSides}
use Rattle.anti_join.specs.Holding.{AntiKeeps}

abbrev pub anti_node : AntiSides → Node
anti_node s = AntiNode 0 1 s.rows.left.key s.rows.right.key

-- how many entries it keeps: one for each row, for each edge that waits, and for each time
abbrev pub anti_entries : AntiSides → ℕ
anti_entries s = (length s.rows.left.rows + length s.left_waiting) + (length s.rows.right.rows + length s.right_waiting) + length s.rows.times.rows

-- saved entries are what it keeps up to a time, after the edges hl and hr came in and out was answered
abbrev pub Resumes : AntiSides → List SavedEntry → ℕ → List Edge → List Edge → List Edge → Type 0
Resumes s saved to hl hr out =
    AntiKeeps s.rows.left.key s.rows.right.key (rows_of (part_of 0 saved)) (rows_of (part_of 1 saved)) (rows_of (part_of 4 saved)) (part_of 2 saved) (part_of 3 saved)
    to hl hr out

-- whose row the cells of a part are
abbrev pub anti_row : ℕ → Option PartRow
anti_row part = cond (nat_eq part 0) (Some Left) (cond (nat_eq part 1) (Some Right) (cond (nat_eq part 2) (Some Left) (cond (nat_eq part 3) (Some Right) (cond (nat_eq part 4) (Some Left) None))))
