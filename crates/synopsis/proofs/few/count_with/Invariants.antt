use Rattle.std.proofs.Common.{take}
use Rattle.synopsis.specs.Held.{is_of_key}
use Rattle.synopsis.specs.Few.{AllPass}
use Rattle.synopsis.proofs.few.count_with.Given as goal

abbrev pub invariant-loop-i : goal.invariant-loop-i
invariant-loop-i l = AllPass (is_of_key l.columns l.key) (take l.i l.rest)
