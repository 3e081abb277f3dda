-- The sweep of a Top: its node, and what it keeps, as entries.
use Rattle.std.specs.Prelude.{ℕ, nat_lt, cond, Option, Some, None, ◌+◌, length, List}
use Rattle.tw_rows.specs.declared.edge.Edge.{Edge}
use Rattle.edge_stream.specs.declared.saved.PartRow.{PartRow}
use Rattle.edge_stream.specs.declared.saved.PartRow.TheVariants.{Left}
use Rattle.edge_stream.specs.declared.saved.SavedEntry.{SavedEntry}
use Rattle.edge_stream.specs.Entries.{part_of}
use Rattle.plan_model.specs.declared.node.Node.{Node}
use Rattle.plan_model.specs.declared.node.Node.TheVariants.{Top as TopNode}
use Rattle.sweep_laws.specs.Saving.{rows_of}
use Rattle.outer_top.specs.declared.side.TopSide.{TopSide}
use Rattle.outer_top.specs.TopKeys.{kept_rows}
use Rattle.outer_top.specs.States.{TopKeeps}

abbrev pub top_node : TopSide → Node
top_node s = TopNode 0 s.tops.key.columns s.tops.by s.tops.most

-- how many entries it keeps: one for each row, one for each edge that waits, and one for each open start
abbrev pub top_entries : TopSide → ℕ
top_entries s = length (kept_rows s.tops.keys.entries) + length s.waiting + length s.queues

-- saved entries are what it keeps up to a time, after the edges came in and were answered. Those of equal rows that are shown stand
-- in the order in which they end
abbrev pub Resumes : TopSide → List SavedEntry → ℕ → List Edge → List Edge → Type 0
Resumes s saved to came out =
    TopKeeps s.tops.key.columns s.tops.by s.tops.most (rows_of (part_of 0 saved)) (part_of 1 saved) (rows_of (part_of 2 saved)) to came out

-- whose row the cells of a part are
abbrev pub top_row : ℕ → Option PartRow
top_row part = cond (nat_lt part 3) (Some Left) None
