-- The entries so far, and those of the runs that are still to come, are all.
use Rattle.std.proofs.Common.{◌≡◌, ◌++◌, map}
use Rattle.edge_stream.specs.Entries.{entries_of}
use Rattle.sweep_laws.specs.Moves.{start_of}
use Rattle.snapshot_agg.proofs.saving.save_runs.Given as goal

abbrev pub invariant-loop-row : goal.invariant-loop-row
invariant-loop-row l = l.saved ++ entries_of l.part (map (λ e. start_of e.1) l.row-iterator) ≡ l.fn.saved ++ entries_of l.part (map (λ e. start_of e.1) l.running.entries)
