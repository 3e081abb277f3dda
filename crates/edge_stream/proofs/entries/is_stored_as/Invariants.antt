-- The cells before this one are stored so.
use Rattle.std.proofs.Common.{◌≡◌, map, take}
use Rattle.tw_rows.specs.Cells.{datum_kind}
use Rattle.tw_rows.specs.Kinds.{cell_kind_of}
use Rattle.edge_stream.proofs.entries.is_stored_as.Given as goal

abbrev pub invariant-loop-i : goal.invariant-loop-i
invariant-loop-i l = map datum_kind (take l.i l.cells) ≡ map cell_kind_of (take l.i l.kinds)
