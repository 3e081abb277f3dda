use Rattle.std.proofs.Common.{◌≡◌}
use Rattle.edge_history.specs.Order.{failing, is_from}
use Rattle.snapshot_agg.proofs.sweep.first_from.Given as goal

abbrev pub invariant-loop-i : goal.invariant-loop-i
invariant-loop-i l = failing (is_from l.from) l.due ≡ 0 → l.i ≡ 0
