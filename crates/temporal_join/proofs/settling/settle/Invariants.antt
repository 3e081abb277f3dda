use Rattle.std.proofs.Common.{◌≡◌, ◌+◌, ℕ, length}
use Rattle.tw_rows.specs.Bag.{total}
use Rattle.tw_rows.specs.declared.edge.Edge.{Edge}
use Rattle.tw_rows.specs.declared.edge.HeldRow.{HeldRow}
use Rattle.sweep_sides.specs.Waiting.{queued, AreTimed}
use Rattle.temporal_join.specs.Lives.{end_weight, row_of}
use Rattle.temporal_join.proofs.settling.settle.Given as goal

abbrev pub invariant-loop-life : goal.invariant-loop-life
invariant-loop-life l = record {
  rows : (w : HeldRow → ℕ) → total w l.rows.rows + total (λ x. w (row_of x)) l.lives.lives ≡ total w l.fn.rows.rows + total (λ x. w (row_of x)) l.fn.lives.lives;
  ends : (w : Edge → ℕ) → total w (queued l.queue) + total (end_weight w) l.lives.lives ≡ total w (queued l.fn.queue) + total (end_weight w) l.fn.lives.lives;
  timed : AreTimed l.fn.queue → AreTimed l.queue;
  key : l.rows.key ≡ l.fn.rows.key;
  columns : l.lives.columns ≡ l.fn.lives.columns;
}

abbrev pub decreases-loop-life : goal.decreases-loop-life
decreases-loop-life l = length l.lives.lives
