-- The edges of the entries before this one are there.
use Rattle.std.proofs.Common.{◌≡◌, take}
use Rattle.edge_stream.specs.Entries.{part_of}
use Rattle.edge_stream.proofs.entries.edges_of_part.Given as goal

abbrev pub invariant-loop-entry : goal.invariant-loop-entry
invariant-loop-entry l = l.edges.items ≡ part_of l.part (take l.entry-index l.entries)
