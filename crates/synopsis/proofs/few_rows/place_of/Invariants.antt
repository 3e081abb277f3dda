-- No row before this one has the cells.
use Rattle.std.proofs.Common.{take}
use Rattle.synopsis.specs.Marked.{AreMarked, HasNone}
use Rattle.synopsis.proofs.few_rows.place_of.Given as goal

abbrev pub invariant-loop-i : goal.invariant-loop-i
invariant-loop-i l = AreMarked l.rows → HasNone l.cells (take l.i l.rows)
