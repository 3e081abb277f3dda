-- The events of a node, over rows of any kind.
use Rattle.std.specs.Prelude.{List, ◌++◌, map, filter}
use Rattle.tw_rows.specs.Event.{Event, alive}
use Rattle.key_nodes.specs.Antis.{alone}
use Rattle.key_nodes.specs.Clips.{clipped}
use Rattle.key_nodes.specs.Coalesced.{coalesced}
use Rattle.key_nodes.specs.Follows.{followed}
use Rattle.key_nodes.specs.Groups.{grouped}
use Rattle.key_nodes.specs.Joins.{joined}
use Rattle.key_nodes.specs.Tops.{top}
use Rattle.plan_model.specs.declared.node.Node.{Node}
use Rattle.plan_model.specs.declared.node.Node.TheVariants.{Source, Where, Select, Union, Delay, Hop, Duration, Extend, Session, Clip, Group, Join, Anti, Coalesce, Mean, Top, Follow}
use Rattle.plan_model.specs.Keys.{paired_row}
use Rattle.plan_model.specs.Lives.{moved, hopped, lasting, extended, in_sessions}
use Rattle.plan_model.specs.Means.{mean_row}
use Rattle.plan_model.specs.RowOps.{RowOps, key_in, keys_equal_in, int_in, row_of_group_in}

-- the event with its row replaced, and the same lifetime
abbrev pub event_to : {R S : Type 0} → (R → S) → Event R → Event S
event_to f e = record { row = f e.row; start = e.start; end = e.end }

-- the events, each with its row replaced
abbrev pub events_to : {R S : Type 0} → (R → S) → List (Event R) → List (Event S)
events_to f es = map (event_to f) es

-- the events of a node, from those of its children. A node with one child doesn't look at the right ones
abbrev pub node_in : {X : Type 0} → RowOps X → Node → List (Event (List X)) → List (Event (List X)) → List (Event (List X))
node_in ops (Source stream) a b = a
node_in ops (Where of test) a b = filter (λ e. ops.holds test e.row) a
node_in ops (Select of items) a b = events_to (ops.select items) a
node_in ops (Union left right) a b = a ++ b
node_in ops (Delay of by) a b = moved by a
node_in ops (Hop of size period) a b = hopped size period a
node_in ops (Duration of by) a b = lasting by a
node_in ops (Extend of by) a b = extended by a
node_in ops (Session of timeout key) a b = in_sessions (key_in ops key) ops.same timeout a
node_in ops (Clip left right left_key right_key) a b = clipped (keys_equal_in ops left_key right_key) a b
node_in ops (Group of key aggs) a b = grouped (key_in ops key) ops.same ops.same (row_of_group_in ops key aggs) a
node_in ops (Join left right left_key right_key) a b = joined (keys_equal_in ops left_key right_key) (paired_row right_key) a b
node_in ops (Anti left right left_key right_key) a b = alone ops.same (keys_equal_in ops left_key right_key) a b
node_in ops (Coalesce of) a b = coalesced ops.same (alive a)
node_in ops (Mean of at) a b = events_to (mean_row ops at) a
node_in ops (Top of key by count) a b = top ops.same (keys_equal_in ops key key) (int_in ops by) count a
node_in ops (Follow left right left_key right_key within) a b = followed (keys_equal_in ops left_key right_key) (paired_row right_key) within a b
