use Rattle.std.proofs.Common.{◌≡◌, take}
use Rattle.edge_history.specs.Order.{failing, is_below}
use Rattle.snapshot_agg.proofs.queue.count_below.Given as goal

abbrev pub invariant-loop-i : goal.invariant-loop-i
invariant-loop-i l = failing (is_below l.to) (take l.i l.line.items) ≡ 0
