use Rattle.std.proofs.Common.{◌≡◌, ◌+◌, ℕ, length, map}
use Rattle.std.specs.Prelude.{All}
use Rattle.tw_rows.specs.Bag.{total}
use Rattle.tw_rows.specs.Cells.{datum_kind}
use Rattle.tw_rows.specs.declared.edge.Edge.{Edge}
use Rattle.edge_history.specs.Opens.{singles}
use Rattle.sweep_sides.specs.Waiting.{queued, AreTimed}
use Rattle.temporal_join.proofs.settling.put_rest.Given as goal

abbrev pub invariant-loop-edge : goal.invariant-loop-edge
invariant-loop-edge l = record {
  put : (w : Edge → ℕ) → total w (queued l.queue) + total w (singles l.cursor.edges) ≡ total w (queued l.fn.queue) + total w (singles l.fn.cursor.edges);
  timed : AreTimed l.fn.queue → AreTimed l.queue;
  kinds : l.cursor.kinds ≡ l.fn.cursor.kinds;
  cells : All (λ e. map datum_kind e.cells ≡ l.fn.cursor.kinds) l.cursor.edges → All (λ e. map datum_kind e.cells ≡ l.fn.cursor.kinds) l.fn.cursor.edges;
}

abbrev pub decreases-loop-edge : goal.decreases-loop-edge
decreases-loop-edge l = length l.cursor.edges
