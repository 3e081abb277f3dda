use Rattle.std.proofs.Common.{◌≡◌, ◌+◌, ℕ, length, map}
use Rattle.std.specs.Prelude.{All, cond}
use Rattle.tw_rows.specs.Bag.{total}
use Rattle.tw_rows.specs.Cells.{datum_kind}
use Rattle.tw_rows.specs.declared.edge.Edge.{Edge}
use Rattle.edge_history.specs.Opens.{singles}
use Rattle.edge_history.specs.Order.{is_below}
use Rattle.edge_stream.specs.Listing.{cells_of}
use Rattle.sweep_sides.specs.Waiting.{queued, AreTimed}
use Rattle.sweep_sides.specs.Ends.{weight, HaveStarts}
use Rattle.sweep_sides.proofs.taking.take_into.Given as goal

abbrev pub invariant-loop-ends : goal.invariant-loop-ends
invariant-loop-ends l = record {
  starts : HaveStarts l.due.items l.ends;
  parts : (w : Edge → ℕ) → (weight w l.due.items l.ends l.waited.items + total w (queued l.queue)) + total w (singles l.cursor.edges) ≡ total w (queued l.fn.queue) + total w (singles l.edges.edges);
  early : AreTimed l.fn.queue → weight (λ e. cond (is_below l.to e) 0 1) l.due.items l.ends l.waited.items ≡ 0;
  timed : AreTimed l.fn.queue → AreTimed l.queue;
  kinds : l.cursor.kinds ≡ cells_of l.edges;
  cells : All (λ e. map datum_kind e.cells ≡ cells_of l.edges) l.cursor.edges → All (λ e. map datum_kind e.cells ≡ cells_of l.edges) l.edges.edges;
}

abbrev pub decreases-loop-ends : goal.decreases-loop-ends
decreases-loop-ends l = length l.cursor.edges
