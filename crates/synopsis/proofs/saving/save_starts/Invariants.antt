-- The entries so far, and those of the rows that are left, are all entries.
use Rattle.std.proofs.Common.{◌≡◌, ◌++◌}
use Rattle.edge_stream.specs.Entries.{entries_of}
use Rattle.sweep_laws.specs.Saving.{starts_of}
use Rattle.synopsis.specs.Kept.{rows_in}
use Rattle.synopsis.proofs.saving.save_starts.Given as goal

abbrev pub invariant-loop-cells : goal.invariant-loop-cells
invariant-loop-cells l = l.saved ++ entries_of l.part (starts_of (rows_in l.cells-iterator)) ≡ l.fn.saved ++ entries_of l.part (starts_of (rows_in l.starts.entries))
