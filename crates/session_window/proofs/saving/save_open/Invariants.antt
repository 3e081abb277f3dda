-- The entries so far are those that were there, and the starts of the rows of the blocks before this one.
use Rattle.std.proofs.Common.{◌≡◌, ◌++◌, take}
use Rattle.std.specs.Prelude.{flat_map}
use Rattle.edge_stream.specs.Entries.{entries_of}
use Rattle.sweep_laws.specs.Saving.{starts_of}
use Rattle.session_window.proofs.saving.save_open.Given as goal

abbrev pub invariant-loop-k : goal.invariant-loop-k
invariant-loop-k l = l.saved ≡ l.fn.saved ++ entries_of l.part (starts_of (flat_map (λ b. b) (take l.k l.rows.blocks)))
