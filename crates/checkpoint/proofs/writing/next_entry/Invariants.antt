-- The entries from here on are those that were asked for.
use Rattle.std.proofs.Common.{◌≡◌, drop}
use Rattle.checkpoint.specs.Writing.{entries_left}
use Rattle.checkpoint.proofs.writing.next_entry.Given as goal

abbrev pub invariant-loop-at : goal.invariant-loop-at
invariant-loop-at l = entries_left (drop l.at l.parts) l.from ≡ entries_left (drop l.part l.parts) l.entry
