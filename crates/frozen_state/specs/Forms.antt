-- What is known of the parts of a plan at work before their entries are read.
use Rattle.std.specs.Prelude.{◌≡◌, ℕ, zero, suc, nat_eq, ◌&&◌, Bool, true, false, List, [], ◌∷◌, ◌++◌, map, flat_map}
use Rattle.std.specs.List.{list_any}
use Rattle.tw_rows.specs.declared.kind.CellKind.{CellKind}
use Rattle.tw_rows.specs.declared.schema.StreamDef.{StreamDef}
use Rattle.edge_stream.specs.declared.saved.PartRow.{PartRow}
use Rattle.edge_stream.specs.declared.saved.PartRow.TheVariants.{Left, Right, Own, KeyFirst}
use Rattle.plan_model.specs.declared.node.Node.{Node}
use Rattle.plan_model.specs.declared.node.Node.TheVariants.{Union, Delay, Hop, Duration, Extend, Session, Clip, Group, Join, Anti, Coalesce, Mean, Top, Follow}
use Rattle.plan_model.specs.IsPlan.{PlanParts, kinds_of_schema, kinds_at}
use Rattle.plan_model.specs.Meaning.{left_child, right_child, at_child}
use Rattle.frozen_state.specs.declared.owner.Owner.{Owner}
use Rattle.frozen_state.specs.declared.owner.Owner.TheVariants as owners

abbrev pub is_owner : Owner → Owner → Bool
is_owner owners.In owners.In = true
is_owner owners.Out owners.Out = true
is_owner (owners.Node a) (owners.Node b) = nat_eq a b
is_owner a b = false

-- whose part it is, of which shard, and how the cells of its entries are stored, by the number of the entry's part
pub record PartFormView : Type 0 where
  pub owner : Owner
  pub shard : ℕ
  pub rows : List (List CellKind)

-- it is the form of that owner's shard
abbrev pub is_form_of : Owner → ℕ → PartFormView → Bool
is_form_of owner shard f = is_owner f.owner owner && nat_eq f.shard shard

-- whose rows the cells of a node's entries are, by the number of the entry's part. A join keeps rows of its left child in the
-- parts 0 and 2, and of its right child in 1 and 3; a source, a where and a select keep nothing
abbrev pub part_rows : Node → List PartRow
part_rows (Union left right) = Left ∷ Right ∷ []
part_rows (Delay of by) = Left ∷ []
part_rows (Hop of size period) = Left ∷ []
part_rows (Duration of by) = Left ∷ []
part_rows (Extend of by) = Left ∷ Left ∷ []
part_rows (Session of timeout key) = Left ∷ Left ∷ []
part_rows (Clip left right left_key right_key) = Left ∷ Left ∷ Right ∷ []
part_rows (Group of key aggs) = Left ∷ Left ∷ KeyFirst ∷ []
part_rows (Join left right left_key right_key) = Left ∷ Right ∷ Left ∷ Right ∷ []
part_rows (Anti left right left_key right_key) = Left ∷ Right ∷ Left ∷ Right ∷ Left ∷ []
part_rows (Coalesce of) = Left ∷ Left ∷ []
part_rows (Mean of at) = Left ∷ []
part_rows (Top of key by count) = Left ∷ Left ∷ Left ∷ []
part_rows (Follow left right left_key right_key within) = Left ∷ Left ∷ Right ∷ []
part_rows n = []

-- how the cells are stored of such a row of the node n of number i
abbrev pub kinds_of_row : PlanParts → ℕ → Node → PartRow → List CellKind
kinds_of_row plan i n Left = at_child [] (kinds_at plan.schemas) (left_child n)
kinds_of_row plan i n Right = at_child [] (kinds_at plan.schemas) (right_child n)
kinds_of_row plan i n Own = kinds_at plan.schemas i
kinds_of_row plan i n KeyFirst = kinds_at plan.schemas i

-- and so of its entries
abbrev pub node_rows : PlanParts → ℕ → Node → List (List CellKind)
node_rows plan i n = map (kinds_of_row plan i n) (part_rows n)

-- and of the input's: of stream i the parts 3i, 3i + 1 and 3i + 2 are held edges, open starts and dropped ones, of its columns
abbrev pub stream_rows : List StreamDef → List (List CellKind)
stream_rows streams = flat_map (λ d. kinds_of_schema d.schema ∷ kinds_of_schema d.schema ∷ kinds_of_schema d.schema ∷ []) streams

-- how many parts a node's state has: one for each worker where it is cut by key, and none where it keeps nothing
abbrev pub shards_of : ℕ → Node → ℕ
shards_of workers (Union left right) = 1
shards_of workers (Delay of by) = 1
shards_of workers (Hop of size period) = 1
shards_of workers (Duration of by) = 1
shards_of workers (Extend of by) = 1
shards_of workers (Session of timeout key) = workers
shards_of workers (Clip left right left_key right_key) = workers
shards_of workers (Group of key aggs) = workers
shards_of workers (Join left right left_key right_key) = workers
shards_of workers (Anti left right left_key right_key) = workers
shards_of workers (Coalesce of) = 1
shards_of workers (Mean of at) = 1
shards_of workers (Top of key by count) = 1
shards_of workers (Follow left right left_key right_key within) = 1
shards_of workers n = 0

-- a form for each of so many shards, from that number on
abbrev pub shard_forms : Owner → List (List CellKind) → ℕ → ℕ → List PartFormView
shard_forms owner rows first zero = []
shard_forms owner rows first (suc n) = record { owner = owner; shard = first; rows = rows } ∷ shard_forms owner rows (suc first) n

-- and those of the nodes, from the number i on
abbrev pub node_forms : ℕ → PlanParts → ℕ → List Node → List PartFormView
node_forms workers plan i [] = []
node_forms workers plan i (n ∷ ns) = shard_forms (owners.Node i) (node_rows plan i n) 0 (shards_of workers n) ++ node_forms workers plan (suc i) ns

abbrev pub input_form : PlanParts → PartFormView
input_form plan = record { owner = owners.In; shard = 0; rows = stream_rows plan.streams }

abbrev pub output_form : PlanParts → PartFormView
output_form plan = record { owner = owners.Out; shard = 0; rows = kinds_at plan.schemas plan.root ∷ [] }

-- the forms of all parts of a plan at work: of the input, of each node that keeps something, by number and shard, and of the
-- output. Of a delay over a source, as the root: those of the input, of node 1 and of the output
abbrev pub part_forms : ℕ → PlanParts → List PartFormView
part_forms workers plan = input_form plan ∷ (node_forms workers plan 0 plan.nodes ++ output_form plan ∷ [])

-- the name of the form is that of one of these
abbrev pub is_named_in : PartFormView → List PartFormView → Bool
is_named_in f fs = list_any (is_form_of f.owner f.shard) fs

-- no two have the same name
abbrev pub AreApart : List PartFormView → Type 0
AreApart [] = Unit {0}
AreApart (f ∷ fs) = (is_named_in f fs ≡ false) × AreApart fs
