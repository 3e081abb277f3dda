use Rattle.std.proofs.Common.{◌≡◌, take}
use Rattle.synopsis.specs.Held.{key_of}
use Rattle.temporal_join.proofs.live_pairs.same_key.Given as goal

abbrev pub invariant-loop-i : goal.invariant-loop-i
invariant-loop-i l = take l.i (key_of l.columns l.row) ≡ take l.i (key_of l.own l.cells)
