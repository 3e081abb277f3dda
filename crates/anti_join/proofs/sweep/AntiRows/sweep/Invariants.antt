use Rattle.std.proofs.Common.{◌≡◌, ◌+◌, ◌≤◌, ◌-◌, ℕ, List, drop, take, length}
use Rattle.tw_rows.specs.Bag.{total}
use Rattle.tw_rows.specs.declared.edge.HeldRow.{HeldRow}
use Rattle.tw_rows.specs.declared.kind.CellKind.{CellKind}
use Rattle.edge_history.specs.Order.{failing, is_below}
use Rattle.sweep_laws.specs.Saving.{HaveBegun}
use Rattle.edge_history.specs.Opens.{started_rows}
use Rattle.edge_history.specs.History.{CellEvent}
use Rattle.sweep_laws.specs.Sweeps.{IsDue}
use Rattle.anti_join.specs.Holding.{AntiHeld, AntiReached}
use Rattle.anti_join.specs.Rows.{AreByKey, SameKeys}
use Rattle.anti_join.proofs.sweep.AntiRows.sweep.Given as goal

abbrev pub decreases-loop-i : goal.decreases-loop-i
decreases-loop-i l = (length l.left_due - l.i) + (length l.right_due - l.j)

abbrev pub invariant-loop-i : goal.invariant-loop-i
invariant-loop-i l = record {
  within_left : l.i ≤ length l.left_due;
  within_right : l.j ≤ length l.right_due;
  left_rows : (w : HeldRow → ℕ) → total w l.self.left.rows ≤ total w l.fn.self.left.rows + total w (started_rows (take l.i l.left_due));
  right_rows : (w : HeldRow → ℕ) → total w l.self.right.rows ≤ total w l.fn.self.right.rows + total w (started_rows (take l.j l.right_due));
  begun : (kinds : List CellKind) (to : ℕ) → failing (is_below to) l.left_due ≡ 0 → failing (is_below to) l.right_due ≡ 0 → HaveBegun kinds to (started_rows l.left_due) →
      HaveBegun kinds to l.fn.self.left.rows → HaveBegun kinds to l.fn.self.times.rows → HaveBegun kinds to l.self.times.rows;
  keys : SameKeys l.fn.self l.self;
  reached : (a b : List CellEvent) (from to : ℕ) → AreByKey l.fn.self → IsDue a from to l.left_due → IsDue b from to l.right_due →
      AntiHeld l.fn.self.left.key l.fn.self.right.key a b from l.fn.self.left.rows l.fn.self.right.rows l.fn.self.times.rows →
      (u : ℕ) × AntiReached l.fn.self.left.key l.fn.self.right.key a b from u to
      (drop l.i l.left_due) (drop l.j l.right_due) l.self.left.rows l.self.right.rows l.self.times.rows l.fn.answer.items l.answer.items;
}
