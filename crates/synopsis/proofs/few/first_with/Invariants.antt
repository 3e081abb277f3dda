use Rattle.std.proofs.Common.{take}
use Rattle.synopsis.specs.Held.{is_of_key}
use Rattle.synopsis.specs.Few.{NonePass}
use Rattle.synopsis.proofs.few.first_with.Given as goal

abbrev pub invariant-loop-i : goal.invariant-loop-i
invariant-loop-i l = NonePass (is_of_key l.columns l.key) (take l.i l.rows)
