-- The entries so far, and those of the rows that are left, are all entries.
use Rattle.std.proofs.Common.{◌≡◌, ◌++◌}
use Rattle.edge_stream.specs.Entries.{entries_of}
use Rattle.sweep_laws.specs.Saving.{starts_of}
use Rattle.outer_top.specs.Ranks.{rows_in}
use Rattle.outer_top.proofs.groups.save_groups.Given as goal

abbrev pub invariant-loop-group : goal.invariant-loop-group
invariant-loop-group l = l.saved ++ entries_of l.part (starts_of (rows_in l.group-iterator)) ≡ l.fn.saved ++ entries_of l.part (starts_of (rows_in l.groups.entries))
