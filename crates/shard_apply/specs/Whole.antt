-- Several operators of one node side by side, each with the edges of its keys, as one operator of that node.
use Rattle.std.specs.Prelude.{◌≡◌, ℕ, ◌<◌, ◌≤◌, Bool, true, false, List, [], map, length, All, slice_index_or, refl}
use Rattle.std.specs.Coded.{Coded, code_by, coded×, coded_list, coded_ℕ, coded_bool}
use Rattle.tw_rows.specs.Bag.{total, SameBag}
use Rattle.tw_rows.specs.declared.edge.Edge.{Edge}
use Rattle.key_nodes.specs.Shards.{over_shards}
use Rattle.edge_history.specs.Order.{failing, is_below, Rises, IsHistory}
use Rattle.edge_stream.specs.Shards.{edges_in_shard}
use Rattle.plan_model.specs.declared.node.Node.TheVariants.{Source}
use Rattle.plan_laws.specs.Places.{EdgesArePlaced}
use Rattle.plan_laws.specs.Shards.{is_keyed, left_key_of, right_key_of}
use Rattle.edge_stream.specs.Standing.{Standing, Keeping, closing}

-- the operators in the order of their shards, the columns of the keys of both sides, and whether a step failed
pub record Whole (O : Type 0) : Type 0 where
  pub operators : List O
  pub left_key : List ℕ
  pub right_key : List ℕ
  pub failed : Bool

-- such operators, keys and flag, one after another
abbrev pub side_by_side : {O : Type 0} → List O → List ℕ → List ℕ → Bool → Whole O
side_by_side operators left_key right_key failed =
    record { operators = operators; left_key = left_key; right_key = right_key; failed = failed }

-- they are stored as the tuple of all
abbrev pub whole_code : {O : Type 0} → Coded O → Coded (Whole O)
whole_code {O} code =
    code_by (List O × (List ℕ × (List ℕ × Bool)))
    (coded× (coded_list code) (coded× (coded_list coded_ℕ) (coded× (coded_list coded_ℕ) coded_bool)))
    (λ w. (w.operators, (w.left_key, (w.right_key, w.failed))))
    (λ p. record { operators = p.0; left_key = p.1.0; right_key = p.1.1.0; failed = p.1.1.1 }) (λ _. refl)

-- how the first of operators stands. Where there is none it reads a source, which no shard is of
abbrev pub first_of : List Standing → Standing
first_of all = slice_index_or all 0 (record {
  node = Source 0;
  left_closed = 0;
  right_closed = 0;
  left_kinds = [];
  right_kinds = [];
  own_kinds = [];
  batch_rows = 0;
  has_failed = false;
})

-- all stand as the first one does
abbrev pub standing_in : {O : Type 0} → (O → Standing) → Whole O → Standing
standing_in standing w = record (first_of (map standing w.operators)) { has_failed = w.failed }

-- there are some, of a node with a key; all stand alike, and work; and the columns of both keys are those of the node, and
-- among those of its sides
pub record AreInStep (all : List Standing) (left_key right_key : List ℕ) : Type 0 where
  pub some : 1 ≤ length all
  pub alike : All (λ s. s ≡ first_of all) all
  pub works : (first_of all).has_failed ≡ false
  pub keyed : is_keyed (first_of all).node ≡ true
  pub left_key_is : left_key ≡ left_key_of (first_of all).node
  pub right_key_is : right_key ≡ right_key_of (first_of all).node
  pub left_columns : All (λ column. column < length (first_of all).left_kinds) left_key
  pub right_columns : All (λ column. column < length (first_of all).right_kinds) right_key

-- there are 1 to 16 operators; and while no step failed, they are in step, and each has pools of its room
pub record IsWhole (all : List Standing) (capacities left_key right_key : List ℕ) (failed : Bool) : Type 0 where
  pub some : 1 ≤ length all
  pub few : length all ≤ 16
  pub in_step : failed ≡ false → AreInStep all left_key right_key
  pub rooms : failed ≡ false → All (λ capacity. capacity ≡ (first_of all).batch_rows) capacities

-- the edges hl and hr came in and out was answered: each shard keeps just the edges of its number, and what all of them
-- answered, below the closing, are the edges out, in order
pub record ShardsKeep {O : Type 0} (standing : O → Standing) (keeps : O → Keeping) (w : Whole O) (texts : List (List ℕ))
    (hl hr out : List Edge) : Type 0 where
  pub works : w.failed ≡ false
  pub in_step : AreInStep (map standing w.operators) w.left_key w.right_key
  pub left_history : IsHistory hl
  pub right_history : IsHistory hr
  pub left_placed : EdgesArePlaced texts hl
  pub right_placed : EdgesArePlaced texts hr
  pub outs : ℕ → List Edge
  pub shards : (s : ℕ) (d : O) → s < length w.operators → keeps (slice_index_or w.operators s d) texts
      (edges_in_shard (length w.operators) w.left_key s hl) (edges_in_shard (length w.operators) w.right_key s hr) (outs s)
  pub below : (s : ℕ) → s < length w.operators → failing (is_below (closing (standing_in standing w))) (outs s) ≡ 0
  pub order : Rises 0 out
  pub same : SameBag out (over_shards outs (length w.operators))

-- how many entries all of them keep: of two that keep 3 and 4, 7
abbrev pub entries_in : {O : Type 0} → (O → ℕ) → Whole O → ℕ
entries_in entries w = total entries w.operators

-- all of them stand as they were made
pub record AreNew {O : Type 0} (is_new : O → Type 0) (standing : O → Standing) (w : Whole O) : Type 0 where
  pub works : w.failed ≡ false
  pub in_step : AreInStep (map standing w.operators) w.left_key w.right_key
  pub opening : All is_new w.operators
