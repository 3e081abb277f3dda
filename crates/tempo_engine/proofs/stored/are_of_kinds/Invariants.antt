-- The cells before this one are of the kinds.
use Rattle.std.proofs.Common.{◌≡◌, map, take}
use Rattle.tw_rows.specs.Cells.{datum_kind}
use Rattle.tempo_engine.proofs.stored.are_of_kinds.Given as goal

abbrev pub invariant-loop-i : goal.invariant-loop-i
invariant-loop-i l = map datum_kind (take l.i l.cells) ≡ take l.i l.kinds
