use Rattle.std.proofs.Common.{◌≤◌}
use Rattle.std.specs.List.{AllAdjacentBelow}
use Rattle.edge_history.specs.Order.{rank}
use Rattle.snapshot_agg.proofs.waiting.are_in_order.Given as goal

abbrev pub invariant-loop-i : goal.invariant-loop-i
invariant-loop-i l = AllAdjacentBelow (λ x y. rank x ≤ rank y) l.due l.i
