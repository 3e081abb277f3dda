use Rattle.std.proofs.Common.{◌≡◌, take, not}
use Rattle.edge_history.specs.Order.{failing}
use Rattle.temporal_join.specs.Lives.{ends_at}
use Rattle.temporal_join.proofs.lives.place_of.Given as goal

abbrev pub invariant-loop-i : goal.invariant-loop-i
invariant-loop-i l = failing (λ x. not (ends_at l.t x)) (take l.i l.lives) ≡ 0
