-- Rows and edges with their times changed.
use Rattle.std.specs.Prelude.{List, map, filter}
use Rattle.tw_rows.specs.declared.edge.Edge.{Edge}
use Rattle.batch.specs.Rows.{Row}
use Rattle.plan_model.specs.declared.node.Node.{Node}
use Rattle.plan_laws.specs.Answers.{new_start, new_other, is_answered}
use Rattle.lifetime_ops.specs.declared.change.Change.{Change}
use Rattle.lifetime_ops.specs.Nodes.{node_of}

-- the row with the new start and the new other time
abbrev pub new_row : Change → Row → Row
new_row change r = record r { sync = new_start (node_of change) r.sync; other = new_other (node_of change) r.sync r.other }

-- the edge with the new start and the new other time, and the cells that it has
abbrev pub retimed_edge : Node → Edge → Edge
retimed_edge n e = record { sync = new_start n e.sync; other = new_other n e.sync e.other; cells = e.cells }

-- those that are answered of edges, so. They are what is answered, unless the node changes cells
abbrev pub retimed : Node → List Edge → List Edge
retimed n h = map (retimed_edge n) (filter (is_answered n) h)
