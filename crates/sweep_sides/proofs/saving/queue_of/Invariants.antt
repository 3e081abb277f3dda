-- The edges before this one wait.
use Rattle.std.proofs.Common.{◌≡◌, ℕ, take}
use Rattle.tw_rows.specs.Bag.{total}
use Rattle.tw_rows.specs.declared.edge.Edge.{Edge}
use Rattle.sweep_sides.specs.Waiting.{queued, AreTimed}
use Rattle.sweep_sides.proofs.saving.queue_of.Given as goal

abbrev pub invariant-loop-edge : goal.invariant-loop-edge
invariant-loop-edge l = record {
  edges : (w : Edge → ℕ) → total w (queued l.queue) ≡ total w (take l.edge-index l.edges);
  timed : AreTimed l.queue;
}
