use Rattle.std.proofs.Common.{◌≡◌, ◌+◌, take, ℕ, flat_map}
use Rattle.tw_rows.specs.Bag.{total}
use Rattle.tw_rows.specs.declared.edge.HeldRow.{HeldRow}
use Rattle.edge_history.specs.Opens.{started_rows}
use Rattle.sweep_laws.specs.Moves.{Adds}
use Rattle.anti_join.specs.Rows.{AreByKey, SameKeys}
use Rattle.anti_join.proofs.Passes.{begin_told}
use Rattle.anti_join.proofs.sweep.AntiRows.start_left.Given as goal

abbrev pub invariant-loop-edge : goal.invariant-loop-edge
invariant-loop-edge l = record {
  started : (w : HeldRow → ℕ) → total w l.self.left.rows ≡ total w l.fn.self.left.rows + total w (started_rows (take l.edge-index l.now));
  told : AreByKey l.fn.self → Adds l.fn.answer.items l.answer.items (flat_map (begin_told l.t l.fn.self.left.key l.fn.self.right) (started_rows (take l.edge-index l.now)));
  right : l.self.right ≡ l.fn.self.right;
  times : l.self.times ≡ l.fn.self.times;
  keys : SameKeys l.fn.self l.self;
}
