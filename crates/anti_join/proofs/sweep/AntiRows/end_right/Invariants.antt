use Rattle.std.proofs.Common.{◌≡◌, ◌+◌, ◌≤◌, take, ℕ, flat_map}
use Rattle.tw_rows.specs.Bag.{total}
use Rattle.tw_rows.specs.declared.edge.HeldRow.{HeldRow}
use Rattle.edge_history.specs.Opens.{ended_rows}
use Rattle.sweep_laws.specs.Moves.{Adds}
use Rattle.anti_join.specs.Rows.{AreByKey, SameKeys, SetsTimes, starts_told, TimesBegin}
use Rattle.anti_join.proofs.sweep.AntiRows.end_right.Given as goal

abbrev pub invariant-loop-edge : goal.invariant-loop-edge
invariant-loop-edge l = record {
  ended : ((w : HeldRow → ℕ) → total w (ended_rows l.now) ≤ total w l.fn.self.right.rows) → (w : HeldRow → ℕ) →
      total w l.fn.self.right.rows ≡ total w l.self.right.rows + total w (ended_rows (take l.edge-index l.now));
  fewer : (w : HeldRow → ℕ) → total w l.self.right.rows ≤ total w l.fn.self.right.rows;
  told : AreByKey l.fn.self → Adds l.fn.answer.items l.answer.items (flat_map (starts_told l.t l.fn.self l.self) l.fn.self.left.rows);
  times : AreByKey l.fn.self → SetsTimes l.t l.fn.self l.self;
  begun : TimesBegin l.t l.fn.self l.self;
  left : l.self.left ≡ l.fn.self.left;
  keys : SameKeys l.fn.self l.self;
}
