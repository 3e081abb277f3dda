-- The entries so far are those that were there, and those of the edges before this one.
use Rattle.std.proofs.Common.{◌≡◌, ◌++◌, take}
use Rattle.edge_stream.specs.Entries.{entries_of}
use Rattle.edge_stream.proofs.entries.save_edges.Given as goal

abbrev pub invariant-loop-edge : goal.invariant-loop-edge
invariant-loop-edge l = l.saved ≡ l.fn.saved ++ entries_of l.part (take l.edge-index l.edges)
