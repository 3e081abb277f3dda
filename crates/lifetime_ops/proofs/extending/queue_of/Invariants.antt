-- The edges before this one wait.
use Rattle.std.proofs.Common.{◌≡◌, ◌≤◌, ℕ, List, take}
use Rattle.std.specs.Prelude.{All}
use Rattle.tw_rows.specs.Bag.{total}
use Rattle.tw_rows.specs.declared.edge.Edge.{Edge}
use Rattle.tw_rows.specs.declared.kind.CellKind.{CellKind}
use Rattle.edge_stream.specs.Entries.{IsEdgePart}
use Rattle.lifetime_ops.specs.Waiting.{edges_of_pending, IsWaitingEnd}
use Rattle.lifetime_ops.proofs.extending.queue_of.Given as goal

abbrev pub invariant-loop-edge : goal.invariant-loop-edge
invariant-loop-edge l = record {
  edges : (w : Edge → ℕ) → total w (edges_of_pending l.ends) ≡ total w (take l.edge-index l.edges);
  waiting : (kinds : List CellKind) (from : ℕ) → IsEdgePart kinds from l.edges → All (IsWaitingEnd kinds) l.ends × All (λ p. from ≤ p.at) l.ends;
}
