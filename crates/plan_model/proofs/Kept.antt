-- What a plan keeps of each of its nodes.
use Rattle.std.specs.Prelude.{◌≡◌, ◌≢◌, ℕ, ◌+◌, ◌<◌, ◌≤◌, Bool, true, Option, Some, None, List, length, slice_get, slice_index_or, slice_set}
use Rattle.std.proofs.Common.{sym, ◌∙◌, ap, subst, arith, below_more, get_or-set_other, get_or-set_same}
use Rattle.std.proofs.lemmas.Option.{slice_get-get_or}
use Rattle.tw_rows.specs.declared.kind.CellKind.{CellKind}
use Rattle.tw_rows.specs.declared.schema.ColumnDef.{ColumnDef}
use Rattle.tw_rows.specs.declared.schema.StreamDef.{StreamDef}
use Rattle.tw_rows.specs.Instant.{inf}
use Rattle.plan_model.specs.declared.node.Node.{Node}
use Rattle.plan_model.specs.declared.node.Node.TheVariants.{Source, Where, Select, Union, Delay, Hop, Duration, Extend, Session, Clip, Group, Join, Anti, Coalesce, Mean, Top, Follow}
use Rattle.plan_model.specs.IsPlan.{IsSoundOver, AreNodes, PlanParts, IsPlan, most_reach}
use Rattle.plan_model.specs.Meaning.{left_child, right_child, left_of, right_of, HasLower, IsOrdered, node_closes, closes}
use Rattle.plan_model.specs.Reach.{HasPeriod, node_reach, reach, node_is_event_level, event_level}
use Rattle.plan_model.proofs.Plans.{over_nodes-from}

pub AreNodes-ordered : (streams : List StreamDef) (nodes : List Node) (schemas : List (List ColumnDef)) → AreNodes streams nodes schemas → IsOrdered nodes
AreNodes-ordered streams nodes schemas kept i n there = ((kept.each i n there).left_lower, (kept.each i n there).right_lower)

pub IsPlan-ordered : (plan : PlanParts) → IsPlan plan → IsOrdered plan.nodes
IsPlan-ordered plan kept = AreNodes-ordered plan.streams plan.nodes plan.schemas kept.nodes_are

-- n is the node of number i of a plan
pub record IsNodeAt (plan : PlanParts) (i : ℕ) (n : Node) : Type 0 where
  pub kept : IsPlan plan
  pub low : i < length plan.nodes
  pub here : slice_get plan.nodes i ≡ Some n

pub node_at : (plan : PlanParts) (nodes : List Node) (i : ℕ) (n : Node) → IsPlan plan → nodes ≡ plan.nodes → i < length plan.nodes → n ≡ slice_index_or nodes i n → IsNodeAt plan i n
node_at plan nodes i n kept same low is = record {
  kept = kept;
  low = low;
  here = slice_get-get_or plan.nodes i n low ∙ ap Some (sym (is ∙ ap (λ l. slice_index_or l i n) same));
}

HasPeriod-sound : (n : Node) (l r : List CellKind) → IsSoundOver n l r → HasPeriod n
HasPeriod-sound (Source stream) l r h = tt
HasPeriod-sound (Where of test) l r h = tt
HasPeriod-sound (Select of items) l r h = tt
HasPeriod-sound (Union left right) l r h = tt
HasPeriod-sound (Delay of by) l r h = tt
HasPeriod-sound (Hop of size period) l r h = h.repeats
HasPeriod-sound (Duration of by) l r h = tt
HasPeriod-sound (Extend of by) l r h = tt
HasPeriod-sound (Session of timeout key) l r h = tt
HasPeriod-sound (Clip left right left_key right_key) l r h = tt
HasPeriod-sound (Group of key aggs) l r h = tt
HasPeriod-sound (Join left right left_key right_key) l r h = tt
HasPeriod-sound (Anti left right left_key right_key) l r h = tt
HasPeriod-sound (Coalesce of) l r h = tt
HasPeriod-sound (Mean of at) l r h = tt
HasPeriod-sound (Top of key by count) l r h = tt
HasPeriod-sound (Follow left right left_key right_key within) l r h = tt

-- a node of a plan has a period where it is a hop
pub period_at : (plan : PlanParts) (i : ℕ) (n : Node) → IsNodeAt plan i n → HasPeriod n
period_at plan i n at = HasPeriod-sound n _ _ (at.kept.nodes_are.each i n at.here).sound

most_lower : (i : ℕ) (child : Option ℕ) → i ≤ 256 → HasLower i child → HasLower 256 child
most_lower i None low h = tt
most_lower i (Some j) low h = omega arith

-- and its children have numbers below 256
pub left_at : (plan : PlanParts) (i : ℕ) (n : Node) → IsNodeAt plan i n → HasLower 256 (left_child n)
left_at plan i n at = most_lower i (left_child n) (let few = at.kept.nodes_are.few in let low = at.low in omega (arith, few, low)) (at.kept.nodes_are.each i n at.here).left_lower

pub right_at : (plan : PlanParts) (i : ℕ) (n : Node) → IsNodeAt plan i n → HasLower 256 (right_child n)
right_at plan i n at = most_lower i (right_child n) (let few = at.kept.nodes_are.few in let low = at.low in omega (arith, few, low)) (at.kept.nodes_are.each i n at.here).right_lower

-- an array of 256 has room for what is found of each node
pub room_at : {R : Type 0} (plan : PlanParts) (i : ℕ) (n : Node) (done : List R) → IsNodeAt plan i n → length done ≡ 256 → i < length done
room_at plan i n done at is = let few = at.kept.nodes_are.few in let low = at.low in omega (arith, few, low, is)

-- what is found of a node, from what was found of the nodes before it
pub closing_found : (plan : PlanParts) (p i : ℕ) (n : Node) → IsNodeAt plan i n → (done : ℕ → ℕ) → ((j : ℕ) → j < i → done j ≡ closes plan.nodes j p) →
    node_closes n (left_of inf (λ s. p) done n) (right_of inf done n) ≡ closes plan.nodes i p
closing_found plan p i n at done same = sym (over_nodes-from inf (λ s. p) node_closes plan.nodes (IsPlan-ordered plan at.kept) i n at.here done same)

pub level_found : (plan : PlanParts) (i : ℕ) (n : Node) → IsNodeAt plan i n → (done : ℕ → Bool) → ((j : ℕ) → j < i → done j ≡ event_level plan.nodes j) →
    node_is_event_level n (left_of true (λ s. true) done n) (right_of true done n) ≡ event_level plan.nodes i
level_found plan i n at done same = sym (over_nodes-from true (λ s. true) node_is_event_level plan.nodes (IsPlan-ordered plan at.kept) i n at.here done same)

pub reach_found : (plan : PlanParts) (i : ℕ) (n : Node) → IsNodeAt plan i n → (done : ℕ → ℕ) → ((j : ℕ) → j < i → done j ≡ reach plan.nodes j) →
    node_reach n (left_of 0 (λ s. 0) done n) (right_of 0 done n) ≡ reach plan.nodes i
reach_found plan i n at done same = sym (over_nodes-from 0 (λ s. 0) node_reach plan.nodes (IsPlan-ordered plan at.kept) i n at.here done same)

-- and no node looks back too far
pub reach_near : (plan : PlanParts) (i : ℕ) (n : Node) → IsNodeAt plan i n → reach plan.nodes i ≤ most_reach
reach_near plan i n at = (at.kept.nodes_are.each i n at.here).near

pub found_near : (plan : PlanParts) (i : ℕ) (n : Node) → IsNodeAt plan i n → (done : ℕ → ℕ) → ((j : ℕ) → j < i → done j ≡ reach plan.nodes j) →
    node_reach n (left_of 0 (λ s. 0) done n) (right_of 0 done n) ≤ most_reach
found_near plan i n at done same = subst (λ r. r ≤ most_reach) (sym (reach_found plan i n at done same)) (reach_near plan i n at)

-- one more is found
pub found_more : {R : Type 0} (done : List R) (d : R) (f : ℕ → R) (i : ℕ) (x : R) → i < length done → ((j : ℕ) → j < i → slice_index_or done j d ≡ f j) → x ≡ f i →
    (j : ℕ) → j < i + 1 → slice_index_or (slice_set done i x) j d ≡ f j
found_more done d f i x low before here =
    below_more _ _
    (λ j h. let other : j ≢ i = omega arith in get_or-set_other done i j x d other ∙ before j h)
    (get_or-set_same done i x d low ∙ here)
