use Rattle.std.specs.Prelude.{Bool, filter}
use Rattle.std.proofs.Common.{◌≡◌, ◌≤◌, ℕ, length}
use Rattle.tw_rows.specs.Bag.{SameBag, total}
use Rattle.tw_rows.specs.declared.edge.HeldRow.{HeldRow}
use Rattle.follow_op.specs.Waits.{still_waits, StartsRise}
use Rattle.follow_op.proofs.rows.drop_over.Given as goal

abbrev pub decreases-over : goal.decreases-over
decreases-over l = length l.queue.items

abbrev pub invariant-over : goal.invariant-over
invariant-over l = record {
  rows : (p : HeldRow → Bool) → SameBag l.fn.left.rows (filter p l.fn.queue.items) → SameBag l.left.rows (filter p l.queue.items);
  queue : StartsRise 0 l.fn.queue.items → StartsRise 0 l.queue.items × (filter (still_waits l.within l.t) l.queue.items ≡ filter (still_waits l.within l.t) l.fn.queue.items);
  fewer : (w : HeldRow → ℕ) → total w l.left.rows ≤ total w l.fn.left.rows;
  key : l.left.key ≡ l.fn.left.key;
}
