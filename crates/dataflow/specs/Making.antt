-- The stage that is made of a node.
use Rattle.std.specs.Prelude.{◌≡◌, ℕ, true, false, List}
use Rattle.plan_model.specs.declared.node.Node.{Node}
use Rattle.plan_model.specs.IsPlan.{IsKey}
use Rattle.plan_laws.specs.Shards.{is_keyed, left_key_of, right_key_of}
use Rattle.edge_stream.specs.Standing.{Standing}
use Rattle.dataflow.specs.Shards.{RunsAt}
use Rattle.dataflow.specs.Stages.{AtNode, StartsAt}
use Rattle.dataflow.specs.declared.making.StageMaker.{StageMaker}
use Rattle.dataflow.specs.declared.stage.Stage.{Stage}

-- so is the node of the maker
abbrev pub IsOf : StageMaker → (Node → Type 0) → Type 0
IsOf m P = AtNode m.plan.now m.node P

-- the stage stands as it was made for that node, and runs it
abbrev pub StartsOf : StageMaker → Stage → Type 0
StartsOf m s = StartsAt m.plan.now m.capacity m.node s

abbrev pub RunsOf : StageMaker → Stage → Type 0
RunsOf m s = RunsAt m.workers m.plan.now m.node s

-- each operator that is made is new and stands so: as a node with these keys, among the columns of its sides, in batches of that
-- capacity
pub record MakesShards {O : Type 0} (is_new : O → Type 0) (standing : O → Standing) (is_made : O → Type 0) (left_key right_key : List ℕ)
    (capacity : ℕ) : Type 0 where
  pub stand : Standing
  pub stands : (o : O) → is_made o → standing o ≡ stand
  pub new : (o : O) → is_made o → is_new o
  pub works : stand.has_failed ≡ false
  pub keyed : is_keyed stand.node ≡ true
  pub left_key_is : left_key ≡ left_key_of stand.node
  pub right_key_is : right_key ≡ right_key_of stand.node
  pub left_columns : IsKey stand.left_kinds left_key
  pub right_columns : IsKey stand.right_kinds right_key
  pub batch_rows : stand.batch_rows ≡ capacity
