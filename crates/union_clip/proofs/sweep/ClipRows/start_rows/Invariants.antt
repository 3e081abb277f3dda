use Rattle.std.proofs.Common.{◌≡◌, ◌+◌, take, map, ℕ, true}
use Rattle.tw_rows.specs.Bag.{total}
use Rattle.tw_rows.specs.declared.edge.HeldRow.{HeldRow}
use Rattle.edge_history.specs.Opens.{started_rows}
use Rattle.sweep_laws.specs.Moves.{Adds, told_at}
use Rattle.union_clip.specs.Keys.{SameKeys}
use Rattle.union_clip.proofs.sweep.ClipRows.start_rows.Given as goal

abbrev pub invariant-loop-edge : goal.invariant-loop-edge
invariant-loop-edge l = record {
  started : (w : HeldRow → ℕ) → total w l.self.left.rows ≡ total w l.fn.self.left.rows + total w (started_rows (take l.edge-index l.now));
  told : Adds l.fn.answer.items l.answer.items (map (told_at true l.t) (started_rows (take l.edge-index l.now)));
  keys : SameKeys l.fn.self l.self;
}
