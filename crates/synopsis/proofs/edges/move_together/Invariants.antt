-- The rows of the edges before this one.
use Rattle.std.specs.Prelude.{◌≡◌, take}
use Rattle.edge_history.specs.Opens.{bare, ended_rows, started_rows}
use Rattle.synopsis.proofs.edges.move_together.Given as goal

abbrev pub invariant-loop-edge : goal.invariant-loop-edge
invariant-loop-edge l = record {
  lost : l.lost.items ≡ bare (ended_rows (take l.edge-index l.now));
  won : l.won.items ≡ bare (started_rows (take l.edge-index l.now));
}
