use Rattle.std.proofs.Common.{◌+◌, ◌≡◌, ◌≤◌, ◌-◌, ℕ, List, drop, length}
use Rattle.tw_rows.specs.Bag.{total}
use Rattle.tw_rows.specs.declared.edge.HeldRow.{HeldRow}
use Rattle.edge_history.specs.Opens.{started_rows}
use Rattle.edge_history.specs.History.{CellEvent}
use Rattle.plan_model.specs.Keys.{paired_row}
use Rattle.sweep_laws.specs.Sweeps.{IsDue}
use Rattle.sweep_laws.specs.Pairs.{Held}
use Rattle.sweep_laws.specs.Joining.{JoinReached}
use Rattle.temporal_join.specs.Joined.{join_meets}
use Rattle.temporal_join.specs.Kept.{AreByKey, SameKeys}
use Rattle.temporal_join.proofs.sweep.JoinRows.sweep.Given as goal

abbrev pub decreases-loop-i : goal.decreases-loop-i
decreases-loop-i l = (length l.fn.left_due - l.i) + (length l.fn.right_due - l.j)

abbrev pub invariant-loop-i : goal.invariant-loop-i
invariant-loop-i l = record {
  within_left : l.i ≤ length l.fn.left_due;
  within_right : l.j ≤ length l.fn.right_due;
  rest_left : drop l.i l.left_due ≡ drop l.i l.fn.left_due;
  rest_right : drop l.j l.right_due ≡ drop l.j l.fn.right_due;
  keys : SameKeys l.fn.self l.self;
  left_rows : (w : HeldRow → ℕ) → total w l.self.left.rows + total w (started_rows (drop l.i l.fn.left_due)) ≤ total w l.fn.self.left.rows + total w (started_rows l.fn.left_due);
  right_rows : (w : HeldRow → ℕ) → total w l.self.right.rows + total w (started_rows (drop l.j l.fn.right_due)) ≤ total w l.fn.self.right.rows + total w (started_rows l.fn.right_due);
  reached : (a b : List CellEvent) (from to : ℕ) → AreByKey l.fn.self → IsDue a from to l.fn.left_due → IsDue b from to l.fn.right_due → Held a b from l.fn.self.left.rows l.fn.self.right.rows →
      (u : ℕ) × JoinReached (join_meets l.fn.self.left_key.items l.fn.self.right_key.items) (paired_row l.fn.self.right_key.items) a b from u to
      (drop l.i l.fn.left_due) (drop l.j l.fn.right_due) l.self.left.rows l.self.right.rows l.fn.answer.items l.answer.items;
}
