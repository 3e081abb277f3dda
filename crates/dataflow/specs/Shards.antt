-- Which stage runs a node, and in how many shards.
use Rattle.std.specs.Prelude.{◌≡◌, ℕ, Bool, true, false, Some, List, length, slice_get}
use Rattle.plan_model.specs.IsPlan.{PlanParts}
use Rattle.plan_model.specs.declared.node.Node.{Node}
use Rattle.plan_model.specs.declared.node.Node.TheVariants as nodes
use Rattle.frozen_state.specs.Forms.{shards_of}
use Rattle.dataflow.specs.declared.stage.Stage.{Stage}
use Rattle.dataflow.specs.declared.stage.Stage.TheVariants.{Rows, Life, Union, Extend, Join, Group, Anti, Session, Clip, Coalesce, Follow, Top}

-- the stage is of the variant that runs such a node: the stage of rows a Where, and the stage of a Join a Join
abbrev pub is_variant_of : Stage → Node → Bool
is_variant_of (Rows s) (nodes.Source stream) = true
is_variant_of (Rows s) (nodes.Where of test) = true
is_variant_of (Rows s) (nodes.Select of items) = true
is_variant_of (Life o) (nodes.Delay of by) = true
is_variant_of (Life o) (nodes.Hop of size period) = true
is_variant_of (Life o) (nodes.Duration of by) = true
is_variant_of (Life o) (nodes.Mean of at) = true
is_variant_of (Union o) (nodes.Union left right) = true
is_variant_of (Extend o) (nodes.Extend of by) = true
is_variant_of (Join o) (nodes.Join left right left_key right_key) = true
is_variant_of (Group o) (nodes.Group of key aggs) = true
is_variant_of (Anti o) (nodes.Anti left right left_key right_key) = true
is_variant_of (Session o) (nodes.Session of timeout key) = true
is_variant_of (Clip o) (nodes.Clip left right left_key right_key) = true
is_variant_of (Coalesce o) (nodes.Coalesce of) = true
is_variant_of (Follow o) (nodes.Follow left right left_key right_key within) = true
is_variant_of (Top o) (nodes.Top of key by count) = true
is_variant_of s n = false

-- how many shards it has: of a node that is run as a whole it is 1, and 0 where nothing is kept between steps
abbrev pub shards_in : Stage → ℕ
shards_in (Rows s) = 0
shards_in (Join o) = length o.operators
shards_in (Group o) = length o.operators
shards_in (Anti o) = length o.operators
shards_in (Session o) = length o.operators
shards_in (Clip o) = length o.operators
shards_in s = 1

-- the stage runs the node with so many workers: a Join in a shard for each, and a Union as a whole. A Group without a key has a
-- shard for each too, of which one takes all rows
pub record RunsNode (workers : ℕ) (n : Node) (s : Stage) : Type 0 where
  pub variant : is_variant_of s n ≡ true
  pub shards : shards_in s ≡ shards_of workers n

-- the stage runs the node of this number in the plan so
abbrev pub RunsAt : ℕ → PlanParts → ℕ → Stage → Type 0
RunsAt workers plan i s = (n : Node) → slice_get plan.nodes i ≡ Some n → RunsNode workers n s

-- each stage runs its node so
abbrev pub RunAll : ℕ → List Node → List Stage → Type 0
RunAll workers nodes stages = (i : ℕ) (n : Node) (s : Stage) → slice_get nodes i ≡ Some n → slice_get stages i ≡ Some s → RunsNode workers n s
