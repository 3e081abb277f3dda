use Rattle.std.proofs.Common.{◌≡◌, ◌≤◌, take, List, ℕ}
use Rattle.tw_rows.specs.Bag.{total}
use Rattle.tw_rows.specs.declared.edge.HeldRow.{HeldRow}
use Rattle.tw_rows.specs.declared.cells.Datum.{Datum}
use Rattle.edge_history.specs.Order.{many}
use Rattle.edge_history.specs.Opens.{ended_rows}
use Rattle.synopsis.specs.Held.{is_of_key}
use Rattle.anti_join.specs.Rows.{AreByKey, SameKeys, ForgetsTimes, lefts_of, times_of}
use Rattle.anti_join.proofs.sweep.AntiRows.forget.Given as goal

abbrev pub invariant-loop-edge : goal.invariant-loop-edge
invariant-loop-edge l = record {
  times : AreByKey l.fn.self → ForgetsTimes l.fn.self l.self;
  gone : AreByKey l.fn.self → (k : List Datum) → lefts_of l.fn.self k ≡ 0 → 1 ≤ many (is_of_key l.fn.self.left.key k) (ended_rows (take l.edge-index l.now)) → times_of l.fn.self l.self k ≡ 0;
  fewer : (w : HeldRow → ℕ) → total w l.self.times.rows ≤ total w l.fn.self.times.rows;
  left : l.self.left ≡ l.fn.self.left;
  right : l.self.right ≡ l.fn.self.right;
  keys : SameKeys l.fn.self l.self;
}
