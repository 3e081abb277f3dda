-- So far.
use Rattle.std.proofs.Common.{take}
use Rattle.std.specs.Prelude.{All}
use Rattle.checkpoint.specs.Values.{IsEntryValue}
use Rattle.checkpoint.proofs.values.see_entries.Given as goal

abbrev pub invariant-loop-entry : goal.invariant-loop-entry
invariant-loop-entry l = All IsEntryValue (take l.entry-index l.entries)
