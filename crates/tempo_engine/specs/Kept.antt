-- What the parts of an engine keep, apart and in a row.
use Rattle.std.specs.Prelude.{ℕ, suc, List, [], ◌∷◌, ◌++◌, map, take, drop}
use Rattle.tw_rows.specs.Bag.{total}
use Rattle.edge_stream.specs.declared.saved.SavedEntry.{SavedEntry}
use Rattle.plan_model.specs.IsPlan.{PlanParts}
use Rattle.frozen_state.specs.declared.owner.Owner.TheVariants as owners
use Rattle.frozen_state.specs.declared.frozen.FrozenPart.{FrozenPart}
use Rattle.frozen_state.specs.Frozen.{FrozenView}
use Rattle.frozen_state.specs.Forms.{shards_of}

-- the last punctuation, the bound and the mark of each stream, and what the input, each shard of each node and the output keep, as
-- entries
pub record KeptView : Type 0 where
  pub last : ℕ
  pub bounds : List ℕ
  pub marks : List ℕ
  pub input : List SavedEntry
  pub nodes : List (List (List SavedEntry))
  pub output : List SavedEntry

-- the entries of the first part, and none where there is no part
abbrev pub first_saved : List FrozenPart → List SavedEntry
first_saved [] = []
first_saved (p ∷ ps) = p.saved

-- the entries of the parts that come first, a list of so many for each number. Of 1, 0, 2 and the parts a, b, c: a; none; b, c
abbrev pub shared_out : List ℕ → List FrozenPart → List (List (List SavedEntry))
shared_out [] parts = []
shared_out (n ∷ counts) parts = map (λ p. p.saved) (take n parts) ∷ shared_out counts (drop n parts)

-- how many parts each node has. Of a source and a join with two workers: 0, 2
abbrev pub node_counts : ℕ → PlanParts → List ℕ
node_counts workers plan = map (shards_of workers) plan.nodes

-- the parts apart: the first is the input's, then come those of the nodes, and then the output's
abbrev pub kept_of : ℕ → PlanParts → FrozenView → KeptView
kept_of workers plan f = record {
  last = f.last;
  bounds = f.bounds;
  marks = f.marks;
  input = first_saved f.parts;
  nodes = shared_out (node_counts workers plan) (drop 1 f.parts);
  output = first_saved (drop (total (λ n. n) (node_counts workers plan)) (drop 1 f.parts));
}

-- a part for each shard of a node, from that shard on
abbrev pub shard_row : ℕ → ℕ → List (List SavedEntry) → List FrozenPart
shard_row node shard [] = []
shard_row node shard (e ∷ es) = record { owner = owners.Node node; shard = shard; saved = e } ∷ shard_row node (suc shard) es

-- and those of the nodes, from that number on
abbrev pub node_row : ℕ → List (List (List SavedEntry)) → List FrozenPart
node_row node [] = []
node_row node (es ∷ nodes) = shard_row node 0 es ++ node_row (suc node) nodes

-- all parts in a row
abbrev pub parts_of : KeptView → List FrozenPart
parts_of k = record { owner = owners.In; shard = 0; saved = k.input }
    ∷ (node_row 0 k.nodes ++ record { owner = owners.Out; shard = 0; saved = k.output } ∷ [])

-- what is frozen of them, with the number of the last line and the texts by place
abbrev pub frozen_of : ℕ → List (List ℕ) → KeptView → FrozenView
frozen_of lines texts k = record { lines = lines; last = k.last; bounds = k.bounds; marks = k.marks; texts = texts; parts = parts_of k }
