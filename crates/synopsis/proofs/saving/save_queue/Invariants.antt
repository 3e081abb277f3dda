-- The entries so far are those that were there, and the starts before this one.
use Rattle.std.proofs.Common.{◌≡◌, ◌++◌, take}
use Rattle.edge_stream.specs.Entries.{entries_of}
use Rattle.sweep_laws.specs.Queues.{held_with}
use Rattle.sweep_laws.specs.Saving.{starts_of}
use Rattle.synopsis.proofs.saving.save_queue.Given as goal

abbrev pub invariant-loop-i : goal.invariant-loop-i
invariant-loop-i l = l.saved ≡ l.fn.saved ++ entries_of l.part (starts_of (held_with l.cells (take l.i l.since.items)))
