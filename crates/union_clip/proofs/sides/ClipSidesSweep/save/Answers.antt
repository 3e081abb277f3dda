use Rattle.std.proofs.Common.{ap, arith, length}
use Rattle.std.proofs.Props.{props}
use Rattle.std.proofs.Math.Logic.{∥∥₁_elim}
use Rattle.sweep_sides.specs.Waiting.{queued}
use Rattle.sweep_sides.proofs.KeptSides.{rows_added, waiting_added}
use Rattle.union_clip.specs.States.{ClipSound}
use Rattle.union_clip.proofs.Resuming.{clip_saved, clip_resumed}
use Rattle.union_clip.proofs.sides.ClipSidesSweep.save.Goals as goal

pub returns-clause-few : goal.returns-clause-few
returns-clause-few c =
    let s = c.args.self.now in
    let none = ap length c.new-saved.ensures in
    let left = rows_added 0 s.rows.left.rows c.new-saved.result c.save_rows.new.saved c.in_ok-save_rows.ensures in
    let left_rest = waiting_added 1 s.left_waiting c.save_rows.new.saved c.save_waiting.new.saved c.in_ok-save_waiting.ensures in
    let right_rest = waiting_added 2 s.right_waiting c.save_waiting.new.saved c.save_waiting-2.new.saved c.in_ok-save_waiting-2.ensures in
    omega (arith, none, left, left_rest, right_rest)

pub returns-clause-sound : goal.returns-clause-sound
returns-clause-sound c = λ l r to fits.
    let s = c.args.self.now in
    let once : IsProp (ClipSound l r to c.save_waiting-2.new.saved) = hlevel props in
    ∥∥₁_elim fits once (λ w.
    clip_saved s.rows.left.rows (queued s.left_waiting) (queued s.right_waiting) c.new-saved.result c.save_rows.new.saved c.save_waiting.new.saved c.save_waiting-2.new.saved
    c.new-saved.ensures c.in_ok-save_rows.ensures c.in_ok-save_waiting.ensures c.in_ok-save_waiting-2.ensures l r to w.left.started w.left.later w.right.later w.right_starts)

pub returns-clause-resumes : goal.returns-clause-resumes
returns-clause-resumes c = λ to hl hr out k.
    let s = c.args.self.now in
    clip_resumed s.rows.left.rows (queued s.left_waiting) (queued s.right_waiting) c.new-saved.result c.save_rows.new.saved c.save_waiting.new.saved c.save_waiting-2.new.saved
    c.new-saved.ensures c.in_ok-save_rows.ensures c.in_ok-save_waiting.ensures c.in_ok-save_waiting-2.ensures s.rows.left.key s.rows.right_key.columns to hl hr out k.kept
