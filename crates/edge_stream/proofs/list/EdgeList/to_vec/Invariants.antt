-- The edges so far and those that are still to come are the list's.
use Rattle.std.proofs.Common.{◌≡◌, ◌++◌, map, length}
use Rattle.std.specs.Prelude.{All}
use Rattle.tw_rows.specs.Cells.{datum_kind}
use Rattle.edge_stream.specs.Listing.{cells_of}
use Rattle.edge_stream.proofs.list.EdgeList.to_vec.Given as goal

abbrev pub invariant-loop-edges : goal.invariant-loop-edges
invariant-loop-edges l = record {
  edges : l.edges.items ++ l.cursor.edges ≡ l.self.edges;
  kinds : l.cursor.kinds ≡ cells_of l.self;
  cells : All (λ e. map datum_kind e.cells ≡ cells_of l.self) l.edges.items;
}

abbrev pub decreases-loop-edges : goal.decreases-loop-edges
decreases-loop-edges l = length l.cursor.edges
