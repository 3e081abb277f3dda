-- The entries before this one are starts.
use Rattle.std.proofs.Common.{◌≡◌, true, take}
use Rattle.std.specs.List.{list_all}
use Rattle.edge_history.specs.Opens.{is_start}
use Rattle.edge_stream.specs.Entries.{part_of}
use Rattle.sweep_sides.proofs.saving.are_starts.Given as goal

abbrev pub invariant-loop-entry : goal.invariant-loop-entry
invariant-loop-entry l = list_all is_start (part_of l.part (take l.entry-index l.entries)) ≡ true
