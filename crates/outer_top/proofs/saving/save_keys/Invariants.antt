-- The entries so far, and those of the rows that are left, are all entries.
use Rattle.std.proofs.Common.{◌≡◌, ◌++◌}
use Rattle.edge_stream.specs.Entries.{entries_of}
use Rattle.sweep_laws.specs.Saving.{starts_of}
use Rattle.outer_top.specs.TopKeys.{kept_rows}
use Rattle.outer_top.proofs.saving.save_keys.Given as goal

abbrev pub invariant-loop-ranked : goal.invariant-loop-ranked
invariant-loop-ranked l = l.saved ++ entries_of l.part (starts_of (kept_rows l.ranked-iterator)) ≡ l.fn.saved ++ entries_of l.part (starts_of (kept_rows l.keys.entries))
