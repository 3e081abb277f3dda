use Rattle.std.proofs.Common.{◌≡◌, ◌+◌, ◌++◌, ℕ, take}
use Rattle.tw_rows.specs.Bag.{total}
use Rattle.tw_rows.specs.declared.edge.HeldRow.{HeldRow}
use Rattle.edge_history.specs.Opens.{started_rows}
use Rattle.follow_op.proofs.rows.start_rows.Given as goal

abbrev pub invariant-loop-edge : goal.invariant-loop-edge
invariant-loop-edge l = record {
  rows : (w : HeldRow → ℕ) → total w l.left.rows ≡ total w l.fn.left.rows + total w (started_rows (take l.edge-index l.now));
  queue : l.queue.items ≡ l.fn.queue.items ++ started_rows (take l.edge-index l.now);
  key : l.left.key ≡ l.fn.left.key;
}
