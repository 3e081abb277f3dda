use Rattle.std.proofs.Common.{◌≡◌, take}
use Rattle.edge_history.specs.Order.{failing}
use Rattle.sweep_laws.specs.Sweeps.{is_at}
use Rattle.sweep_sides.proofs.instants.first_instant.Given as goal

abbrev pub invariant-loop-i : goal.invariant-loop-i
invariant-loop-i l = failing (is_at l.t) (take l.i l.rest) ≡ 0
