use Rattle.std.proofs.Common.{◌≡◌, ◌+◌, ◌≤◌, take, ℕ, flat_map}
use Rattle.tw_rows.specs.Bag.{total}
use Rattle.tw_rows.specs.declared.edge.HeldRow.{HeldRow}
use Rattle.edge_history.specs.Opens.{ended_rows}
use Rattle.sweep_laws.specs.Moves.{Adds}
use Rattle.anti_join.specs.Rows.{AreByKey, SameKeys}
use Rattle.anti_join.proofs.Passes.{end_told}
use Rattle.anti_join.proofs.sweep.AntiRows.end_left.Given as goal

abbrev pub invariant-loop-edge : goal.invariant-loop-edge
invariant-loop-edge l = record {
  ended : ((w : HeldRow → ℕ) → total w (ended_rows l.now) ≤ total w l.fn.self.left.rows) → (w : HeldRow → ℕ) →
      total w l.fn.self.left.rows ≡ total w l.self.left.rows + total w (ended_rows (take l.edge-index l.now));
  fewer : (w : HeldRow → ℕ) → total w l.self.left.rows ≤ total w l.fn.self.left.rows;
  told : AreByKey l.fn.self → ((w : HeldRow → ℕ) → total w (ended_rows l.now) ≤ total w l.fn.self.left.rows) →
      Adds l.fn.answer.items l.answer.items (flat_map (end_told l.t l.fn.self.left.key l.fn.self.right l.fn.self.times) (ended_rows (take l.edge-index l.now)));
  right : l.self.right ≡ l.fn.self.right;
  times : l.self.times ≡ l.fn.self.times;
  keys : SameKeys l.fn.self l.self;
}
