-- The texts of the batches before this one are in the table.
use Rattle.std.proofs.Common.{take}
use Rattle.std.specs.Prelude.{All}
use Rattle.tw_rows.specs.Cells.{ArePlaced}
use Rattle.edge_stream.specs.Listing.{edges_in}
use Rattle.edge_stream.proofs.list.EdgeList.are_placed.Given as goal

abbrev pub invariant-loop-place : goal.invariant-loop-place
invariant-loop-place l = All (λ e. ArePlaced l.texts e.cells) (edges_in (take l.place l.self-inside.batches.items))
