-- The entries before this one are of the parts.
use Rattle.std.proofs.Common.{◌≡◌, true, take}
use Rattle.edge_stream.specs.Entries.{are_of_parts}
use Rattle.edge_stream.proofs.entries.are_of_parts.Given as goal

abbrev pub invariant-loop-entry : goal.invariant-loop-entry
invariant-loop-entry l = are_of_parts l.count (take l.entry-index l.entries) ≡ true
