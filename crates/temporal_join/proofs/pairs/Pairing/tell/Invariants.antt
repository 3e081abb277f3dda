use Rattle.std.proofs.Common.{◌≡◌, ◌++◌, take, map}
use Rattle.sweep_laws.specs.Moves.{told_at}
use Rattle.temporal_join.specs.Pairing.{pair_with}
use Rattle.temporal_join.proofs.pairs.Pairing.tell.Given as goal

abbrev pub invariant-loop-other : goal.invariant-loop-other
invariant-loop-other l =
    l.answer.items ≡ l.fn.answer.items ++ map (λ y. told_at l.starts l.self.at (pair_with l.self (record { cells = l.cells; start = l.start }) y)) (take l.other-index l.others)
