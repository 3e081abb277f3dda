-- Where the rows of nodes are events.
use Rattle.std.specs.Prelude.{◌≡◌, ℕ, Bool, true, ◌&&◌, Some, List, slice_get, refl}
use Rattle.std.proofs.Common.{sym, ◌∙◌, ap}
use Rattle.plan_model.specs.declared.node.Node.{Node}
use Rattle.plan_model.specs.declared.node.Node.TheVariants.{Source, Where, Select, Union, Delay, Hop, Duration, Extend, Session, Clip, Group, Join, Anti, Coalesce, Mean, Top, Follow}
use Rattle.plan_model.specs.IsPlan.{PlanParts, IsPlan}
use Rattle.plan_model.specs.Meaning.{Sources, Meaning, nothing, by_events, node_meaning, meaning, right_child, left_of, right_of, IsOrdered, IsLevelled}
use Rattle.plan_model.specs.Reach.{node_is_event_level, event_level}
use Rattle.plan_model.proofs.Kept.{IsPlan-ordered}
use Rattle.plan_model.proofs.Plans.{by_nodes, left_holds, child_holds}

module _ (source : Sources) (level : ℕ → Bool) (at : ℕ → Meaning) where
  node_levels : (n : Node) → left_of true (λ s. true) level n ≡ (left_of nothing (λ s. by_events (source s)) at n).has_events → right_of true level n ≡ (right_of nothing at n).has_events →
      node_is_event_level n (left_of true (λ s. true) level n) (right_of true level n) ≡ (node_meaning n (left_of nothing (λ s. by_events (source s)) at n) (right_of nothing at n)).has_events
  node_levels (Source stream) h k = refl
  node_levels (Where of test) h k = h
  node_levels (Select of items) h k = h
  node_levels (Union left right) h k = ap (λ c. c && level right) h ∙ ap (λ c. (at left).has_events && c) k
  node_levels (Delay of by) h k = h
  node_levels (Hop of size period) h k = refl
  node_levels (Duration of by) h k = refl
  node_levels (Extend of by) h k = refl
  node_levels (Session of timeout key) h k = refl
  node_levels (Clip left right left_key right_key) h k = refl
  node_levels (Group of key aggs) h k = refl
  node_levels (Join left right left_key right_key) h k = refl
  node_levels (Anti left right left_key right_key) h k = refl
  node_levels (Coalesce of) h k = refl
  node_levels (Mean of at) h k = refl
  node_levels (Top of key by count) h k = refl
  node_levels (Follow left right left_key right_key within) h k = refl

module _ (source : Sources) (nodes : List Node) (ordered : IsOrdered nodes) where
  -- the level of a node is whether it has events
  pub levels_agree : (n : ℕ) → event_level nodes n ≡ (meaning source nodes n).has_events
  levels_agree =
      by_nodes {T = Unit {0}} true nothing tt (λ s. true) (λ s. by_events (source s)) (λ s. tt) node_is_event_level node_meaning (λ n a b. tt) (λ level m u. level ≡ m.has_events) nodes
      ordered refl (λ s. refl) (λ i n there left right. node_levels source (event_level nodes) (meaning source nodes) n left right)

  -- and so is what a node reads on the left, and on the right
  left_agrees : (i : ℕ) (n : Node) → slice_get nodes i ≡ Some n → left_of true (λ s. true) (event_level nodes) n ≡ (left_of nothing (λ s. by_events (source s)) (meaning source nodes) n).has_events
  left_agrees i n there =
      left_holds {T = Unit {0}} true nothing tt (λ s. true) (λ s. by_events (source s)) (λ s. tt) node_is_event_level node_meaning (λ n a b. tt) (λ level m u. level ≡ m.has_events) nodes
      (λ s. refl) i (λ j low. levels_agree j) n (ordered i n there).0

  right_agrees : (i : ℕ) (n : Node) → slice_get nodes i ≡ Some n → right_of true (event_level nodes) n ≡ (right_of nothing (meaning source nodes) n).has_events
  right_agrees i n there =
      child_holds {T = Unit {0}} true nothing tt (λ s. true) (λ s. by_events (source s)) (λ s. tt) node_is_event_level node_meaning (λ n a b. tt) (λ level m u. level ≡ m.has_events) nodes
      refl i (λ j low. levels_agree j) (right_child n) (ordered i n there).1

pub IsPlan-levelled : (plan : PlanParts) → IsPlan plan → IsLevelled plan.nodes
IsPlan-levelled plan kept source i n there = (
  λ reads. sym (left_agrees source plan.nodes (IsPlan-ordered plan kept) i n there) ∙ (kept.nodes_are.each i n there).over_events.on_left reads,
  λ reads. sym (right_agrees source plan.nodes (IsPlan-ordered plan kept) i n there) ∙ (kept.nodes_are.each i n there).over_events.on_right reads,
)
