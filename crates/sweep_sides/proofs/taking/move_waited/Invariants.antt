use Rattle.std.proofs.Common.{◌≡◌, ◌+◌, ℕ, length}
use Rattle.tw_rows.specs.Bag.{total}
use Rattle.tw_rows.specs.declared.edge.Edge.{Edge}
use Rattle.sweep_sides.specs.Ends.{KeepsStarts}
use Rattle.sweep_sides.proofs.taking.move_waited.Given as goal

abbrev pub invariant-loop-edge : goal.invariant-loop-edge
invariant-loop-edge l = record {
  parts : (w : Edge → ℕ) → total w l.due.items + total w l.waited.items ≡ total w l.fn.due.items + total w l.fn.waited.items;
  kept : KeepsStarts l.fn.due.items l.due.items;
}

abbrev pub decreases-loop-edge : goal.decreases-loop-edge
decreases-loop-edge l = length l.waited.items
