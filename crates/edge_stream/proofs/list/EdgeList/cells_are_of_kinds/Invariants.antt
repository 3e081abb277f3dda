-- The cells of the batches before this one are stored so.
use Rattle.std.proofs.Common.{◌≡◌, map, take}
use Rattle.std.specs.Prelude.{All}
use Rattle.tw_rows.specs.Cells.{datum_kind}
use Rattle.edge_stream.specs.Listing.{cells_of, edges_in}
use Rattle.edge_stream.proofs.list.EdgeList.cells_are_of_kinds.Given as goal

abbrev pub invariant-loop-place : goal.invariant-loop-place
invariant-loop-place l = All (λ e. map datum_kind e.cells ≡ cells_of l.self) (edges_in (take l.place l.self-inside.batches.items))
