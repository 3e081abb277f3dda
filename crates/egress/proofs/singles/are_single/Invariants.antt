use Rattle.egress.proofs.EdgeMoves.{StandOnceTo}
use Rattle.egress.proofs.singles.are_single.Given as goal

abbrev pub invariant-loop-i : goal.invariant-loop-i
invariant-loop-i l = StandOnceTo l.edges l.i
