use Rattle.std.proofs.Common.{take}
use Rattle.std.specs.Prelude.{filter}
use Rattle.union_clip.specs.Keys.{SameKeys}
use Rattle.union_clip.specs.Leaving.{is_met, Leave}
use Rattle.union_clip.proofs.sweep.ClipRows.clip_rows.Given as goal

abbrev pub invariant-loop-edge : goal.invariant-loop-edge
invariant-loop-edge l = record {
  left : Leave (filter (is_met l.fn.self.left.key l.fn.self.right_key.columns (take l.edge-index l.now)) l.fn.self.left.rows) l.t l.fn.self.left.rows l.self.left.rows l.fn.answer.items l.answer.items;
  keys : SameKeys l.fn.self l.self;
}
