-- What a plan means: the events and the rows of each node, and the time below which they are final.
use Rattle.std.specs.Prelude.{◌≡◌, ℕ, ◌-◌, min, nat_le, Bool, true, false, cond, ◌&&◌, Some, List, [], ◌++◌, map, filter, slice_get}
use Rattle.tw_rows.specs.Instant.{inf, later, floor_to}
use Rattle.tw_rows.specs.Event.{Event, alive}
use Rattle.tw_rows.specs.Rows.{Row}
use Rattle.key_nodes.specs.Antis.{alone_rows}
use Rattle.key_nodes.specs.Clips.{clipped}
use Rattle.key_nodes.specs.Coalesced.{coalesced}
use Rattle.key_nodes.specs.Follows.{followed}
use Rattle.key_nodes.specs.Groups.{grouped_rows}
use Rattle.key_nodes.specs.Joins.{joined_rows}
use Rattle.key_nodes.specs.Tops.{top_rows}
use Rattle.plan_model.specs.declared.node.Node.{Node}
use Rattle.plan_model.specs.declared.node.Node.TheVariants.{Source, Where, Select, Union, Delay, Hop, Duration, Extend, Session, Clip, Group, Join, Anti, Coalesce, Mean, Top, Follow}
use Rattle.plan_model.specs.Expr.{holds, selected_row}
use Rattle.plan_model.specs.Groups.{row_of_group}
use Rattle.plan_model.specs.Keys.{rows_equal, value_ops, key_values, keys_equal, paired_row}
use Rattle.plan_model.specs.Lives.{moved, hopped, lasting, extended, in_sessions}
use Rattle.plan_model.specs.Means.{mean_row}
use Rattle.plan_model.specs.Nodes.{events_to, node_in}
use Rattle.plan_model.specs.RowOps.{int_in}
use Rattle.plan_model.specs.Shape.{Shape, Stream, One, Two, shape}
pub use Rattle.plan_model.specs.Shape.{left_child, right_child, at_child, left_of, right_of, over_nodes, HasLower, IsOrdered}

-- the events of each stream, by its number
abbrev pub Sources : Type 0
Sources = ℕ → List (Event Row)

-- the events of a node over rows of values, from those of its children
abbrev pub node_events : Node → List (Event Row) → List (Event Row) → List (Event Row)
node_events n a b = node_in value_ops n a b

-- the events of the node of number n
abbrev pub events : Sources → List Node → ℕ → List (Event Row)
events source nodes n = over_nodes [] source node_events nodes n

-- the lesser of the closings of two children, and that of an only child
abbrev pub lesser_closing : Shape → ℕ → ℕ → ℕ
lesser_closing (Stream stream) x y = x
lesser_closing (One child) x y = x
lesser_closing (Two left right) x y = min x y

-- the time below which a node is final, from those of its children. A delay of 5 over what is final below 17 is final below
-- 22, and a hop of period 10 over it below 10
abbrev pub node_closes : Node → ℕ → ℕ → ℕ
node_closes (Delay of by) x y = later by x
node_closes (Hop of size period) x y = floor_to period x
node_closes n x y = lesser_closing (shape n) x y

-- the closing of the node of number n at the punctuation p, up to which all rows of the sources are known
abbrev pub closes : List Node → ℕ → ℕ → ℕ
closes nodes n p = over_nodes inf (λ s. p) node_closes nodes n

-- what a node means: its events where it has events of its own, whether it has them, and its rows at each instant
pub record Meaning : Type 0 where
  pub events : List (Event Row)
  pub has_events : Bool
  pub rows : ℕ → List Row

-- no rows at any instant
abbrev pub nothing : Meaning
nothing = record { events = []; has_events = true; rows = λ t. [] }

-- the meaning whose rows are those of events: at each instant the rows that are alive
abbrev pub by_events : List (Event Row) → Meaning
by_events events = record { events = events; has_events = true; rows = alive events }

-- the meaning that has rows alone
abbrev pub by_rows : (ℕ → List Row) → Meaning
by_rows rows = record { events = []; has_events = false; rows = rows }

-- the meaning of a node, from those of its children
abbrev pub node_meaning : Node → Meaning → Meaning → Meaning
node_meaning (Source stream) a b = a
node_meaning (Where of test) a b = record { events = filter (λ e. holds test e.row) a.events; has_events = a.has_events; rows = λ t. filter (holds test) (a.rows t) }
node_meaning (Select of items) a b = record { events = events_to (selected_row items) a.events; has_events = a.has_events; rows = λ t. map (selected_row items) (a.rows t) }
node_meaning (Union left right) a b = record { events = a.events ++ b.events; has_events = a.has_events && b.has_events; rows = λ t. a.rows t ++ b.rows t }
node_meaning (Delay of by) a b = record { events = moved by a.events; has_events = a.has_events; rows = λ t. cond (nat_le by t) (a.rows (t - by)) [] }
node_meaning (Hop of size period) a b = by_events (hopped size period a.events)
node_meaning (Duration of by) a b = by_events (lasting by a.events)
node_meaning (Extend of by) a b = by_events (extended by a.events)
node_meaning (Session of timeout key) a b = by_events (in_sessions (key_values key) rows_equal timeout a.events)
node_meaning (Clip left right left_key right_key) a b = by_events (clipped (keys_equal left_key right_key) a.events b.events)
node_meaning (Group of key aggs) a b = by_rows (λ t. grouped_rows (key_values key) rows_equal (row_of_group key aggs) (a.rows t))
node_meaning (Join left right left_key right_key) a b = by_rows (λ t. joined_rows (keys_equal left_key right_key) (paired_row right_key) (a.rows t) (b.rows t))
node_meaning (Anti left right left_key right_key) a b = by_rows (λ t. alone_rows (keys_equal left_key right_key) (a.rows t) (b.rows t))
node_meaning (Coalesce of) a b = by_events (coalesced rows_equal a.rows)
node_meaning (Mean of at) a b = by_rows (λ t. map (mean_row value_ops at) (a.rows t))
node_meaning (Top of key by count) a b = by_rows (λ t. top_rows (keys_equal key key) (int_in value_ops by) count (a.rows t))
node_meaning (Follow left right left_key right_key within) a b = by_events (followed (keys_equal left_key right_key) (paired_row right_key) within a.events b.events)

-- the meaning of the node of number n
abbrev pub meaning : Sources → List Node → ℕ → Meaning
meaning source nodes n = over_nodes nothing (λ s. by_events (source s)) node_meaning nodes n

-- the rows of the node of number n at the instant t
abbrev pub snapshots : Sources → List Node → ℕ → ℕ → List Row
snapshots source nodes n t = (meaning source nodes n).rows t

-- the node reads the events of its only or left child, and not its rows at each instant alone
abbrev pub reads_events : Node → Bool
reads_events (Hop of size period) = true
reads_events (Duration of by) = true
reads_events (Extend of by) = true
reads_events (Session of timeout key) = true
reads_events (Clip left right left_key right_key) = true
reads_events (Follow left right left_key right_key within) = true
reads_events n = false

-- the node reads the events of its right child
abbrev pub reads_right_events : Node → Bool
reads_right_events (Clip left right left_key right_key) = true
reads_right_events (Follow left right left_key right_key within) = true
reads_right_events n = false

-- a node that reads the events of a child has there a child with events
abbrev pub IsLevelled : List Node → Type 0
IsLevelled nodes = (source : Sources) (i : ℕ) (n : Node) → slice_get nodes i ≡ Some n →
    (reads_events n ≡ true → (left_of nothing (λ s. by_events (source s)) (meaning source nodes) n).has_events ≡ true)
    × (reads_right_events n ≡ true → (right_of nothing (meaning source nodes) n).has_events ≡ true)
