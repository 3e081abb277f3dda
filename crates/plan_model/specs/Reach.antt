-- What the nodes of a plan are like: whether their rows are events, and how far they look back.
use Rattle.std.specs.Prelude.{ℕ, ◌+◌, ◌≤◌, max, Bool, true, false, ◌&&◌, List}
use Rattle.plan_model.specs.declared.node.Node.{Node}
use Rattle.plan_model.specs.declared.node.Node.TheVariants.{Where, Select, Union, Delay, Hop, Duration, Extend, Session, Group, Join, Anti, Mean, Top, Follow}
use Rattle.plan_model.specs.Meaning.{over_nodes}

-- how far a node itself looks back, in units of time. A hop looks back by its size
abbrev pub own_duration : Node → ℕ
own_duration (Delay of by) = by
own_duration (Hop of size period) = size
own_duration (Duration of by) = by
own_duration (Extend of by) = by
own_duration (Session of timeout key) = timeout
own_duration (Follow left right left_key right_key within) = within
own_duration n = 0

-- the reach of a node, from those of its children: the greater of them, and how far it looks back itself
abbrev pub node_reach : Node → ℕ → ℕ → ℕ
node_reach n x y = max x y + own_duration n

-- the reach of the node of number n. Over a stream, a hop of size 60 and then a delay of 60 reach 120
abbrev pub reach : List Node → ℕ → ℕ
reach nodes n = over_nodes 0 (λ s. 0) node_reach nodes n

-- whether the rows of a node are events, from whether those of its children are. Where they are not, the node has rows at
-- each instant alone, and no step that changes lifetimes may stand over it
abbrev pub node_is_event_level : Node → Bool → Bool → Bool
node_is_event_level (Where of test) a b = a
node_is_event_level (Select of items) a b = a
node_is_event_level (Union left right) a b = a && b
node_is_event_level (Delay of by) a b = a
node_is_event_level (Group of key aggs) a b = false
node_is_event_level (Join left right left_key right_key) a b = false
node_is_event_level (Anti left right left_key right_key) a b = false
node_is_event_level (Mean of at) a b = false
node_is_event_level (Top of key by count) a b = false
node_is_event_level n a b = true

-- whether the node of number n is event-level. A filter over a group is not, and a hop over a filter of a stream is
abbrev pub event_level : List Node → ℕ → Bool
event_level nodes n = over_nodes true (λ s. true) node_is_event_level nodes n

-- a hop has a period of at least 1
abbrev pub HasPeriod : Node → Type 0
HasPeriod (Hop of size period) = 1 ≤ period
HasPeriod n = Unit {0}
