-- The entries so far are those that were there, and those of the rows before this one.
use Rattle.std.proofs.Common.{◌≡◌, ◌++◌, map, take}
use Rattle.edge_stream.specs.Entries.{entry_of}
use Rattle.sweep_laws.specs.Moves.{start_of}
use Rattle.snapshot_agg.proofs.saving.save_line.Given as goal

abbrev pub invariant-loop-i : goal.invariant-loop-i
invariant-loop-i l = l.saved ≡ l.fn.saved ++ map (λ r. entry_of l.part (start_of r)) (take l.i l.line.items)
