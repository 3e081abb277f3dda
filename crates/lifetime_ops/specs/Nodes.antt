-- The nodes at work.
use Rattle.std.specs.Prelude.{◌≡◌, Bool, true, false, Option, Some, None, List, [], slice_get, refl}
use Rattle.std.specs.List.{list_all}
use Rattle.tw_rows.specs.declared.kind.CellKind.{CellKind}
use Rattle.tw_rows.specs.declared.kind.CellKind.TheVariants.{Whole, Bit, Place}
use Rattle.plan_model.specs.IsPlan.{node_kinds}
use Rattle.plan_model.specs.declared.node.Node.{Node}
use Rattle.plan_model.specs.declared.node.Node.TheVariants.{Delay as DelayNode, Hop as HopNode, Duration as DurationNode, Mean as MeanNode}
use Rattle.plan_laws.specs.Answers.{has_known_lives}
use Rattle.lifetime_ops.specs.declared.change.Change.{Change}
use Rattle.lifetime_ops.specs.declared.change.Change.TheVariants.{Delay, Hop, Duration, Mean}

-- the node that makes this change, of the child 0
abbrev pub node_of : Change → Node
node_of (Delay by) = DelayNode 0 by
node_of (Hop size period) = HopNode 0 size period
node_of (Duration by) = DurationNode 0 by
node_of (Mean at) = MeanNode 0 at

-- what it makes of a lifetime is known at its start
pub known : (change : Change) → has_known_lives (node_of change) ≡ true
known (Delay by) = refl
known (Hop size period) = refl
known (Duration by) = refl
known (Mean at) = refl

-- how the columns are stored of what is answered: of a mean as those of its child, but for the last one
abbrev pub answer_kinds : Change → List CellKind → List CellKind
answer_kinds change kinds = node_kinds (node_of change) kinds []

-- a column stores ints
abbrev pub is_whole : Option CellKind → Bool
is_whole None = false
is_whole (Some Whole) = true
is_whole (Some Bit) = false
is_whole (Some Place) = false

-- each column that is divided is an int's. Over a text and two ints a mean may divide the column 1, and not 0
abbrev pub divides_ints : Change → List CellKind → Bool
divides_ints (Mean at) kinds = list_all (λ column. is_whole (slice_get kinds column)) at
divides_ints change kinds = true
