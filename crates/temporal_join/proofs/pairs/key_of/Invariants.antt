use Rattle.std.proofs.Common.{◌≡◌, take}
use Rattle.synopsis.specs.Held.{key_of}
use Rattle.temporal_join.proofs.pairs.key_of.Given as goal

abbrev pub invariant-loop-i : goal.invariant-loop-i
invariant-loop-i l = l.data.items ≡ key_of (take l.i l.key) l.cells
