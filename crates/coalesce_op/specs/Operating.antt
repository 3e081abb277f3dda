-- The sweep of a Coalesce: its node, and what it keeps, as entries.
use Rattle.std.specs.Prelude.{ℕ, nat_lt, cond, Option, Some, None, ◌+◌, length, List}
use Rattle.tw_rows.specs.declared.edge.Edge.{Edge}
use Rattle.edge_stream.specs.declared.saved.PartRow.{PartRow}
use Rattle.edge_stream.specs.declared.saved.PartRow.TheVariants.{Left}
use Rattle.edge_stream.specs.declared.saved.SavedEntry.{SavedEntry}
use Rattle.edge_stream.specs.Entries.{part_of}
use Rattle.plan_model.specs.declared.node.Node.{Node}
use Rattle.plan_model.specs.declared.node.Node.TheVariants.{Coalesce as CoalesceNode}
use Rattle.sweep_laws.specs.Saving.{rows_of}
use Rattle.coalesce_op.specs.declared.side.CoalesceSide.{CoalesceSide}
use Rattle.coalesce_op.specs.Holding.{CoalesceKeeps}

abbrev pub coalesce_node : CoalesceSide → Node
coalesce_node s = CoalesceNode 0

-- how many entries it keeps: one for each open start, and one for each edge that waits
abbrev pub coalesce_entries : CoalesceSide → ℕ
coalesce_entries s = length s.queues + length s.waiting

-- saved entries are what it keeps up to a time, after the edges came in and were answered. Those of equal rows stand in the order
-- in which they end
abbrev pub Resumes : List SavedEntry → ℕ → List Edge → List Edge → Type 0
Resumes saved to came out = CoalesceKeeps (rows_of (part_of 0 saved)) (part_of 1 saved) to came out

-- whose row the cells of a part are
abbrev pub coalesce_row : ℕ → Option PartRow
coalesce_row part = cond (nat_lt part 2) (Some Left) None
