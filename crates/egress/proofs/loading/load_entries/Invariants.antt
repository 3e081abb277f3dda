-- So many entries were taken up.
use Rattle.std.proofs.Common.{take}
use Rattle.egress.proofs.Entries.{Loads}
use Rattle.egress.proofs.loading.load_entries.Given as goal

abbrev pub invariant-loop-entry : goal.invariant-loop-entry
invariant-loop-entry l = Loads l.kinds l.closed (take l.entry-index l.entries) l.loaded
