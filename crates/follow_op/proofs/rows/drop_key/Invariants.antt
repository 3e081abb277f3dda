use Rattle.std.specs.Prelude.{cond}
use Rattle.std.proofs.Common.{◌≡◌, ℕ, length}
use Rattle.tw_rows.specs.Bag.{total}
use Rattle.tw_rows.specs.declared.edge.HeldRow.{HeldRow}
use Rattle.synopsis.specs.Held.{is_of_key}
use Rattle.follow_op.proofs.rows.drop_key.Given as goal

abbrev pub decreases-rows : goal.decreases-rows
decreases-rows l = length l.left.rows

abbrev pub invariant-rows : goal.invariant-rows
invariant-rows l = record {
  rows : (w : HeldRow → ℕ) → total (λ r. cond (is_of_key l.fn.left.key l.key r) 0 (w r)) l.left.rows ≡ total (λ r. cond (is_of_key l.fn.left.key l.key r) 0 (w r)) l.fn.left.rows;
  key : l.left.key ≡ l.fn.left.key;
}
