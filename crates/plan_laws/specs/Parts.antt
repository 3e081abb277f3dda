-- The part of a node's edges that belongs to a shard.
use Rattle.std.specs.Prelude.{ℕ, zero, suc, ◌+◌, List}
use Rattle.tw_rows.specs.declared.cells.Datum.{Datum}
use Rattle.tw_rows.specs.declared.edge.Edge.{Edge}
use Rattle.edge_history.specs.History.{of}
use Rattle.plan_model.specs.Meaning.{node_closes}
use Rattle.plan_model.specs.Nodes.{node_in}
use Rattle.plan_model.specs.RowOps.{key_in}
use Rattle.plan_model.specs.declared.node.Node.{Node}
use Rattle.plan_laws.specs.Held.{may_hold}
use Rattle.plan_laws.specs.Keeping.{plain_cells}
use Rattle.plan_laws.specs.Shards.{left_key_of, right_key_of, edges_of_shard}

-- the shard of a row, where keys are given shards, by the columns of its key
abbrev pub by_key : (List Datum → ℕ) → List ℕ → List Datum → ℕ
by_key shard key cells = shard (key_in plain_cells key cells)

-- the edges of a shard on the only or left side of a node, and on its right side
abbrev pub left_part : (List Datum → ℕ) → Node → ℕ → List Edge → List Edge
left_part shard n s h = edges_of_shard (by_key shard (left_key_of n)) s h

abbrev pub right_part : (List Datum → ℕ) → Node → ℕ → List Edge → List Edge
right_part shard n s h = edges_of_shard (by_key shard (right_key_of n)) s h

-- what f gives of each shard below n, summed up. Of "twice the number" below 3: 0 + 2 + 4
abbrev pub sum_of_shards : (ℕ → ℕ) → ℕ → ℕ
sum_of_shards f zero = 0
sum_of_shards f (suc n) = sum_of_shards f n + f n

-- how many entries a node may keep of edges, on sides that are closed up to x and y
abbrev pub may_keep_of : Node → ℕ → ℕ → List Edge → List Edge → ℕ
may_keep_of n x y hl hr = may_hold n x (node_closes n x y) (of hl) (of hr) (node_in plain_cells n (of hl) (of hr))
