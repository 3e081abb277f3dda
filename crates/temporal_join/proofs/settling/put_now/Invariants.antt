use Rattle.std.proofs.Common.{◌≡◌, ◌+◌, ℕ, length}
use Rattle.tw_rows.specs.Bag.{total}
use Rattle.tw_rows.specs.declared.edge.Edge.{Edge}
use Rattle.edge_history.specs.Opens.{singles}
use Rattle.sweep_sides.specs.Waiting.{queued, AreTimed}
use Rattle.temporal_join.proofs.settling.put_now.Given as goal

abbrev pub invariant-loop-edge : goal.invariant-loop-edge
invariant-loop-edge l = record {
  put : (w : Edge → ℕ) → total w (queued l.queue) + total w (singles l.now.items) ≡ total w (queued l.fn.queue) + total w (singles l.fn.now.items);
  timed : AreTimed l.fn.queue → AreTimed l.queue;
}

abbrev pub decreases-loop-edge : goal.decreases-loop-edge
decreases-loop-edge l = length l.now.items
