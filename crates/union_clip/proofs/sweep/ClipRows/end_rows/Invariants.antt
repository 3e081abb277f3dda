use Rattle.std.specs.Prelude.{not, filter}
use Rattle.std.proofs.Common.{◌≤◌, take, ℕ, Bool}
use Rattle.tw_rows.specs.Bag.{total}
use Rattle.tw_rows.specs.declared.edge.HeldRow.{HeldRow}
use Rattle.edge_history.specs.Opens.{ended_rows}
use Rattle.union_clip.specs.Keys.{SameKeys}
use Rattle.union_clip.specs.Leaving.{Leave, EndsHeld}
use Rattle.union_clip.proofs.sweep.ClipRows.end_rows.Given as goal

abbrev pub invariant-loop-edge : goal.invariant-loop-edge
invariant-loop-edge l = record {
  ended : (clipped : HeldRow → Bool) → EndsHeld clipped (ended_rows l.now) l.fn.self.left.rows →
      Leave (filter (λ r. not (clipped r)) (ended_rows (take l.edge-index l.now))) l.t l.fn.self.left.rows l.self.left.rows l.fn.answer.items l.answer.items;
  fewer : (w : HeldRow → ℕ) → total w l.self.left.rows ≤ total w l.fn.self.left.rows;
  keys : SameKeys l.fn.self l.self;
}
