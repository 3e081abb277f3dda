-- The edges keep the rule where those from this one on do, from the last rank on.
use Rattle.std.proofs.Common.{drop}
use Rattle.std.specs.Prelude.{◌↔◌}
use Rattle.edge_history.specs.Order.{KeepsOrder}
use Rattle.edge_history.proofs.Keeping.{Goes}
use Rattle.edge_history.proofs.order.keeps_order.Given as goal

abbrev pub invariant-loop-edge : goal.invariant-loop-edge
invariant-loop-edge l = Goes l.least (drop l.edge-index l.edges) ↔ KeepsOrder l.edges
