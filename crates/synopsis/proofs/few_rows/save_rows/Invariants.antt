-- The entries so far are those that were there, and those of the rows before this one.
use Rattle.std.proofs.Common.{◌≡◌, ◌++◌, take}
use Rattle.edge_stream.specs.Entries.{entries_of}
use Rattle.sweep_laws.specs.Saving.{starts_of}
use Rattle.synopsis.specs.Marked.{held_rows}
use Rattle.synopsis.proofs.few_rows.save_rows.Given as goal

abbrev pub invariant-loop-row : goal.invariant-loop-row
invariant-loop-row l = l.saved ≡ l.fn.saved ++ entries_of l.part (starts_of (held_rows (take l.row-index l.rows)))
