-- The entries before this one are placed.
use Rattle.std.proofs.Common.{All, take}
use Rattle.tw_rows.specs.Cells.{ArePlaced}
use Rattle.tempo_engine.proofs.named.are_entries_placed.Given as goal

abbrev pub invariant-loop-entry : goal.invariant-loop-entry
invariant-loop-entry l = All (λ e. ArePlaced l.texts e.cells) (take l.entry-index l.entries)
