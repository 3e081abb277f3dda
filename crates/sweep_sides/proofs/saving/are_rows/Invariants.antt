-- The entries before this one pass.
use Rattle.std.proofs.Common.{◌≡◌, true, map, take}
use Rattle.tw_rows.specs.Kinds.{cell_kind_of}
use Rattle.edge_stream.specs.Entries.{part_of}
use Rattle.sweep_laws.specs.Saving.{are_row_starts}
use Rattle.sweep_sides.proofs.saving.are_rows.Given as goal

abbrev pub invariant-loop-entry : goal.invariant-loop-entry
invariant-loop-entry l = are_row_starts (map cell_kind_of l.kinds) l.to (part_of l.part (take l.entry-index l.entries)) ≡ true
