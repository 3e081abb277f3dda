use Rattle.std.proofs.Common.{◌≡◌, ◌+◌, ℕ, length, map}
use Rattle.std.specs.Prelude.{All}
use Rattle.tw_rows.specs.Bag.{total}
use Rattle.tw_rows.specs.Cells.{datum_kind}
use Rattle.tw_rows.specs.declared.edge.Edge.{Edge}
use Rattle.edge_stream.specs.Listing.{cells_of}
use Rattle.sweep_sides.specs.Waiting.{queued, AreTimed}
use Rattle.sweep_sides.specs.Starts.{starts_in}
use Rattle.sweep_sides.proofs.starts.put_starts.Given as goal

abbrev pub invariant-loop-edge : goal.invariant-loop-edge
invariant-loop-edge l = record {
  put : (w : Edge → ℕ) → total w (queued l.queue) + total w (starts_in l.cursor.edges) ≡ total w (queued l.fn.queue) + total w (starts_in l.edges.edges);
  timed : AreTimed l.fn.queue → AreTimed l.queue;
  kinds : l.cursor.kinds ≡ cells_of l.edges;
  cells : All (λ e. map datum_kind e.cells ≡ cells_of l.edges) l.cursor.edges → All (λ e. map datum_kind e.cells ≡ cells_of l.edges) l.edges.edges;
}

abbrev pub decreases-loop-edge : goal.decreases-loop-edge
decreases-loop-edge l = length l.cursor.edges
