-- The entries before this one pass.
use Rattle.std.proofs.Common.{◌≡◌, true, map, take}
use Rattle.tw_rows.specs.Kinds.{cell_kind_of}
use Rattle.edge_stream.specs.Entries.{part_of}
use Rattle.sweep_laws.specs.Saving.{may_all_wait}
use Rattle.sweep_sides.proofs.saving.can_wait.Given as goal

abbrev pub invariant-loop-entry : goal.invariant-loop-entry
invariant-loop-entry l = may_all_wait (map cell_kind_of l.kinds) l.from (part_of l.part (take l.entry-index l.entries)) ≡ true
