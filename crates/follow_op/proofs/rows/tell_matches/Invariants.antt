use Rattle.std.specs.Prelude.{cond, suc}
use Rattle.std.proofs.Common.{◌≡◌, ◌+◌, ◌*◌, ℕ, take}
use Rattle.tw_rows.specs.Bag.{total}
use Rattle.tw_rows.specs.declared.edge.Edge.{Edge}
use Rattle.edge_history.specs.Order.{failing}
use Rattle.sweep_laws.specs.Sweeps.{InOrder}
use Rattle.follow_op.specs.Followed.{match_told, is_met}
use Rattle.follow_op.specs.Waits.{still_waits}
use Rattle.follow_op.proofs.rows.tell_matches.Given as goal

abbrev pub invariant-loop-edge : goal.invariant-loop-edge
invariant-loop-edge l = record {
  told : (w : Edge → ℕ) → total w l.answer.items ≡ total w l.fn.answer.items
      + total (λ x. total (λ r. cond (is_met l.left.key l.fn.room.columns x r) (w (match_told l.fn.room.columns l.within l.t x.cells r)) 0) l.left.rows) (take l.edge-index l.now);
  order : failing (still_waits l.within l.t) l.left.rows ≡ 0 → InOrder (suc (2 * l.t)) l.fn.answer.items → InOrder (suc (2 * l.t)) l.answer.items;
  columns : l.room.columns ≡ l.fn.room.columns;
}
