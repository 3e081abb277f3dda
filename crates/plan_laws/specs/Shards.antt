-- Nodes with keys, computed by shards.
use Rattle.std.specs.Prelude.{ℕ, zero, suc, nat_eq, Bool, true, false, ◌||◌, List, [], filter}
use Rattle.tw_rows.specs.declared.cells.Datum.{Datum}
use Rattle.tw_rows.specs.declared.edge.Edge.{Edge}
use Rattle.edge_history.specs.Made.{edges_where}
use Rattle.plan_model.specs.declared.node.Node.{Node}
use Rattle.plan_model.specs.declared.node.Node.TheVariants.{Session, Clip, Group, Join, Anti}

-- the node is computed key by key: a Session, a Clip, a Group, a Join or an Anti
abbrev pub is_keyed : Node → Bool
is_keyed (Session of timeout key) = true
is_keyed (Clip left right left_key right_key) = true
is_keyed (Group of key aggs) = true
is_keyed (Join left right left_key right_key) = true
is_keyed (Anti left right left_key right_key) = true
is_keyed node = false

-- its key on the only or left side, and on the right side. Of a node without a key, or without a right side, it is `[]`
abbrev pub left_key_of : Node → List ℕ
left_key_of (Session of timeout key) = key
left_key_of (Clip left right left_key right_key) = left_key
left_key_of (Group of key aggs) = key
left_key_of (Join left right left_key right_key) = left_key
left_key_of (Anti left right left_key right_key) = left_key
left_key_of node = []

abbrev pub right_key_of : Node → List ℕ
right_key_of (Clip left right left_key right_key) = right_key
right_key_of (Join left right left_key right_key) = right_key
right_key_of (Anti left right left_key right_key) = right_key
right_key_of node = []

-- the test holds of one of the first n shards
abbrev pub any_shard : (ℕ → Bool) → ℕ → Bool
any_shard test zero = false
any_shard test (suc n) = any_shard test n || test n

-- the rows of a shard, by the number of the shard of each row. With the shards 1, 0, 1 of 5, 6, 7, those of 1 are 5, 7
abbrev pub rows_of_shard : {R : Type 0} → (R → ℕ) → ℕ → List R → List R
rows_of_shard shard s rows = filter (λ r. nat_eq (shard r) s) rows

-- the edges of a shard, by the number of the shard of each row of cells
abbrev pub edges_of_shard : (List Datum → ℕ) → ℕ → List Edge → List Edge
edges_of_shard shard s h = edges_where (λ cells. nat_eq (shard cells) s) h
