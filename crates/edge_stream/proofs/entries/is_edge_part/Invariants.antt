-- The edges of the part among the entries from this one on may come behind the earlier ones exactly where all may be carried.
use Rattle.std.proofs.Common.{map, drop}
use Rattle.std.specs.Prelude.{◌↔◌}
use Rattle.tw_rows.specs.Kinds.{cell_kind_of}
use Rattle.edge_stream.specs.Entries.{part_of, MayFollow, IsEdgePart}
use Rattle.edge_stream.proofs.entries.is_edge_part.Given as goal

abbrev pub invariant-loop-entry : goal.invariant-loop-entry
invariant-loop-entry l = MayFollow (map cell_kind_of l.kinds) l.from l.least (part_of l.part (drop l.entry-index l.entries)) ↔ IsEdgePart (map cell_kind_of l.kinds) l.from (part_of l.part l.entries)
