use Rattle.std.proofs.Common.{◌≡◌, ◌++◌, map, take}
use Rattle.edge_stream.specs.Entries.{entry_of}
use Rattle.sweep_laws.specs.Moves.{start_of}
use Rattle.snapshot_agg.specs.KeptRows.{row_ended}
use Rattle.snapshot_agg.proofs.saving.save_lives.Given as goal

abbrev pub invariant-loop-i : goal.invariant-loop-i
invariant-loop-i l = l.saved ≡ l.fn.saved ++ map (λ e. entry_of l.part (start_of (row_ended e))) (take l.i l.ends.items)
