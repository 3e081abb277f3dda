use Rattle.std.proofs.Common.{◌*◌}
use Rattle.occupancy.proofs.Found.{AreClear}
use Rattle.occupancy.proofs.Occupancy.next_set.Given as goal

abbrev pub invariant-loop-w : goal.invariant-loop-w
invariant-loop-w l = AreClear l.self-inside.words.items l.from (64 * l.w)
