-- The operator of a Group: how it stands, how much it keeps, and what it keeps.
use Rattle.std.specs.Prelude.{ℕ, ◌+◌, ◌*◌, nat_eq, cond, Option, Some, None, List, [], map, length}
use Rattle.tw_rows.specs.Kinds.{cell_kind_of}
use Rattle.tw_rows.specs.declared.edge.Edge.{Edge}
use Rattle.batch.specs.PoolsView.{PoolsView}
use Rattle.edge_stream.specs.Listing.{EdgeListView, cells_of}
use Rattle.edge_stream.specs.declared.saved.PartRow.{PartRow}
use Rattle.edge_stream.specs.declared.saved.PartRow.TheVariants.{Left, KeyFirst}
use Rattle.edge_stream.specs.Taking.{batches_taken, batches_given}
use Rattle.edge_stream.specs.Standing.{Standing}
use Rattle.plan_model.specs.declared.node.Node.TheVariants.{Group}
use Rattle.snapshot_agg.specs.declared.grouped.Grouped.{Grouped}
use Rattle.snapshot_agg.specs.Counting.{pending_of}
use Rattle.snapshot_agg.specs.Keeping.{KeepsGrouped}

-- its node is a Group by its key columns with its aggregates, of whatever child
abbrev pub standing : Grouped → Standing
standing o = record {
  node = Group 0 o.groups.key.items o.groups.aggs.items;
  left_closed = o.left_to;
  right_closed = o.right_to;
  left_kinds = map cell_kind_of o.left_kinds.items;
  right_kinds = [];
  own_kinds = map cell_kind_of o.kinds.items;
  batch_rows = o.capacity;
  has_failed = o.failed;
}

-- the rows and a state of each for each aggregate, the keys, the emitted rows and the pending edges. Two rows of one key and
-- one aggregate, whose row was emitted, and an edge that waits: 2, 2, 1, 1 and 1
abbrev pub entries : Grouped → ℕ
entries o =
    length o.groups.rows.rows.held + length o.groups.rows.rows.held * length o.groups.aggs.items + length o.groups.totals.entries + length o.running.entries + length (pending_of o.groups o.waiting)

-- whose row the cells of a part are: rows and pending edges are of the child, and emitted rows of the group, whose first data
-- are the key. Part 1 has rows of the child
abbrev pub group_row : ℕ → Option PartRow
group_row part = cond (nat_eq part 0) (Some Left) (cond (nat_eq part 1) (Some Left) (cond (nat_eq part 2) (Some KeyFirst) None))

-- it is what is left after the edges hl and hr came in and out was answered
abbrev pub IsKept : Grouped → List (List ℕ) → List Edge → List Edge → List Edge → Type 0
IsKept o texts hl hr out =
    KeepsGrouped o.groups.key.items o.groups.aggs.items (map cell_kind_of o.left_kinds.items) texts o.groups.rows.rows o.running o.waiting o.left_to hl hr out

-- the pools once both lists were given back to them, and the answer was made of their columns
abbrev pub pools_after : PoolsView → EdgeListView → EdgeListView → EdgeListView → PoolsView
pools_after pools left right answer =
    batches_taken answer.batches (batches_given left.batches (batches_given right.batches pools (cells_of right)) (cells_of left)) (cells_of answer)
