use Rattle.std.proofs.Common.{◌-◌, length, drop}
use Rattle.row_reader.specs.Drafted.{HaveNoText}
use Rattle.row_reader.proofs.value.texts_end.Given as goal

abbrev pub invariant-loop-i : goal.invariant-loop-i
invariant-loop-i l = HaveNoText (drop (length l.row - l.i) l.row)
