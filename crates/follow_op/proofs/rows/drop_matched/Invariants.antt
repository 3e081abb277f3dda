use Rattle.std.specs.Prelude.{cond}
use Rattle.std.proofs.Common.{◌≡◌, ℕ, take}
use Rattle.tw_rows.specs.Bag.{total}
use Rattle.tw_rows.specs.declared.edge.HeldRow.{HeldRow}
use Rattle.follow_op.specs.Followed.{is_followed}
use Rattle.follow_op.proofs.rows.drop_matched.Given as goal

abbrev pub invariant-loop-edge : goal.invariant-loop-edge
invariant-loop-edge l = record {
  rows : (w : HeldRow → ℕ) → total w l.left.rows ≡ total (λ r. cond (is_followed l.fn.left.key l.fn.room.columns (take l.edge-index l.now) r) 0 (w r)) l.fn.left.rows;
  key : l.left.key ≡ l.fn.left.key;
  columns : l.room.columns ≡ l.fn.room.columns;
}
