use Rattle.std.specs.Prelude.{All}
use Rattle.std.proofs.Common.{◌≡◌, ◌+◌, ℕ, length, map}
use Rattle.tw_rows.specs.Bag.{total}
use Rattle.tw_rows.specs.Cells.{datum_kind}
use Rattle.tw_rows.specs.declared.edge.Edge.{Edge}
use Rattle.edge_history.specs.Order.{failing, is_below}
use Rattle.edge_history.specs.Opens.{singles}
use Rattle.sweep_sides.specs.Waiting.{queued, AreTimed}
use Rattle.snapshot_agg.proofs.waiting.take_due.Given as goal

abbrev pub decreases-loop-due : goal.decreases-loop-due
decreases-loop-due l = length l.cursor.edges

abbrev pub invariant-loop-due : goal.invariant-loop-due
invariant-loop-due l = record {
  own : AreTimed l.waiting;
  parts : (w : Edge → ℕ) → (total w l.due.items + total w (queued l.waiting)) + total w (singles l.cursor.edges) ≡ total w (queued l.fn.waiting) + total w (singles l.fn.cursor.edges);
  below : failing (is_below l.to) l.due.items ≡ 0;
  kinds : l.cursor.kinds ≡ l.fn.cursor.kinds;
  cells : All (λ e. map datum_kind e.cells ≡ l.fn.cursor.kinds) l.cursor.edges → All (λ e. map datum_kind e.cells ≡ l.fn.cursor.kinds) l.fn.cursor.edges;
}
