use Rattle.std.proofs.Common.{◌≡◌, ◌+◌, ℕ, length}
use Rattle.tw_rows.specs.Bag.{total}
use Rattle.tw_rows.specs.declared.edge.HeldRow.{HeldRow}
use Rattle.snapshot_agg.proofs.row_queue.find_all.Given as goal

abbrev pub decreases-loop-row : goal.decreases-loop-row
decreases-loop-row l = length l.line.items

abbrev pub invariant-loop-row : goal.invariant-loop-row
invariant-loop-row l = (w : HeldRow → ℕ) → total w l.found.rows + total w l.line.items ≡ total w l.fn.found.rows + total w l.fn.line.items
