-- How many edges are carried, and that the nodes are never undefined.
use Rattle.std.specs.Prelude.{◌≡◌, ℕ, ◌≤◌, false, List, length, refl}
use Rattle.std.proofs.Common.{arith}
use Rattle.tw_rows.specs.declared.edge.Edge.{Edge}
use Rattle.edge_history.specs.History.{of}
use Rattle.plan_model.specs.Meaning.{node_closes}
use Rattle.plan_model.specs.declared.node.Node.TheVariants.{Delay as DelayNode, Hop as HopNode, Duration as DurationNode, Mean as MeanNode}
use Rattle.plan_laws.specs.Held.{may_hold}
use Rattle.plan_laws.specs.Undefined.{is_group}
use Rattle.edge_stream.specs.Standing.{own_kept}
use Rattle.plan_laws.specs.LifeKeeping.{KeepsLives}
use Rattle.plan_laws.proofs.Bound.{carried_bound}
use Rattle.lifetime_ops.specs.declared.change.Change.{Change}
use Rattle.lifetime_ops.specs.declared.change.Change.TheVariants.{Delay, Hop, Duration, Mean}
use Rattle.lifetime_ops.specs.Nodes.{node_of}

pub no_group : (change : Change) → is_group (node_of change) ≡ false
no_group (Delay by) = refl
no_group (Hop size period) = refl
no_group (Duration by) = refl
no_group (Mean at) = refl

pub held_within : (change : Change) (texts : List (List ℕ)) (x y : ℕ) (carried left right out : List Edge) → KeepsLives (node_of change) texts x y carried left right out →
    length carried ≤ may_hold (node_of change) x (node_closes (node_of change) x y) (of left) (of right) (own_kept (node_of change) (of left) (of right))
held_within (Delay by) texts x y carried left right out k = let b = carried_bound (DelayNode 0 by) texts x y carried left right out k in omega (arith, b)
held_within (Hop size period) texts x y carried left right out k = let b = carried_bound (HopNode 0 size period) texts x y carried left right out k in omega (arith, b)
held_within (Duration by) texts x y carried left right out k = let b = carried_bound (DurationNode 0 by) texts x y carried left right out k in omega (arith, b)
held_within (Mean at) texts x y carried left right out k = let b = carried_bound (MeanNode 0 at) texts x y carried left right out k in omega (arith, b)
