use Rattle.ingress.proofs.Marks.{MarksTo}
use Rattle.ingress.proofs.watermarks.Watermarks.of.Given as goal

abbrev pub invariant-loop-i : goal.invariant-loop-i
invariant-loop-i l = MarksTo l.bounds l.marks l.i l.streams.items
