-- The loop invariants and measures of gathering::moves_of.
use Rattle.std.specs.Prelude.{◌≡◌, take, map}
use Rattle.synopsis.specs.Counted.{as_moves}
use Rattle.synopsis.proofs.gathering.moves_of.Given as goal

abbrev pub invariant-loop-i : goal.invariant-loop-i
invariant-loop-i l = l.moves.items ≡ map as_moves (take l.i l.fn.counted.entries)
