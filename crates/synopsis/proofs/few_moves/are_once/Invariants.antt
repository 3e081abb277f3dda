-- The moves stand once where those from this one on do.
use Rattle.std.specs.Prelude.{drop}
use Rattle.synopsis.specs.Kept.{AreOnce}
use Rattle.synopsis.proofs.few_moves.are_once.Given as goal

abbrev pub invariant-loop-i : goal.invariant-loop-i
invariant-loop-i l = AreOnce (drop l.i l.moves) → AreOnce l.moves
