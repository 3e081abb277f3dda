use Rattle.std.proofs.Common.{◌+◌, ◌≤◌, ◌-◌, ℕ, List, drop, take, map, length}
use Rattle.tw_rows.specs.Bag.{total}
use Rattle.tw_rows.specs.declared.edge.HeldRow.{HeldRow}
use Rattle.edge_history.specs.Opens.{started_rows}
use Rattle.edge_history.specs.History.{CellEvent}
use Rattle.sweep_laws.specs.Sweeps.{IsDue}
use Rattle.sweep_laws.specs.Unending.{unending}
use Rattle.union_clip.specs.Holding.{ClipHeld, ClipReached}
use Rattle.union_clip.specs.Keys.{SameKeys}
use Rattle.union_clip.proofs.sweep.ClipRows.sweep.Given as goal

abbrev pub decreases-loop-i : goal.decreases-loop-i
decreases-loop-i l = (length l.left_due - l.i) + (length l.right_due - l.j)

abbrev pub invariant-loop-i : goal.invariant-loop-i
invariant-loop-i l = record {
  within_left : l.i ≤ length l.left_due;
  within_right : l.j ≤ length l.right_due;
  rows : (w : HeldRow → ℕ) → total w l.self.left.rows ≤ total w l.fn.self.left.rows + total w (started_rows (take l.i l.left_due));
  keys : SameKeys l.fn.self l.self;
  reached : (a b : List CellEvent) (from to : ℕ) → IsDue a from to l.left_due → IsDue (map unending b) from to l.right_due →
      ClipHeld l.fn.self.left.key l.fn.self.right_key.columns a (map unending b) from l.fn.self.left.rows →
      (u : ℕ) × ClipReached l.fn.self.left.key l.fn.self.right_key.columns a (map unending b) from u to
      (drop l.i l.left_due) (drop l.j l.right_due) l.self.left.rows l.fn.answer.items l.answer.items;
}
