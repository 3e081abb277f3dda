-- The entries so far are those that were there, and those of the edges before this one.
use Rattle.std.proofs.Common.{◌≡◌, ◌++◌, take}
use Rattle.edge_stream.specs.Entries.{entries_of}
use Rattle.snapshot_agg.proofs.saving.save_edge_line.Given as goal

abbrev pub invariant-loop-i : goal.invariant-loop-i
invariant-loop-i l = l.saved ≡ l.fn.saved ++ entries_of l.part (take l.i l.line.items)
