use Rattle.std.proofs.Common.{ap, arith, length}
use Rattle.std.proofs.Math.Logic.{∥∥₁_elim}
use Rattle.std.proofs.Props.{props}
use Rattle.sweep_sides.specs.Waiting.{queued}
use Rattle.sweep_sides.proofs.KeptSides.{rows_added, waiting_added}
use Rattle.temporal_join.specs.States.{JoinSound, left_rows, right_rows, left_pending, right_pending}
use Rattle.temporal_join.proofs.Resuming.{join_saved, join_resumed}
use Rattle.temporal_join.proofs.sides.JoinSidesSweep.save.Goals as goal

pub returns-clause-few : goal.returns-clause-few
returns-clause-few c =
    let s = c.args.self.now in
    let none = ap length c.in_ok-saved.ensures in
    let left = rows_added 0 (left_rows s) c.in_ok-saved.saved c.save_side_rows.new.saved c.in_ok-save_side_rows.ensures in
    let right = rows_added 1 (right_rows s) c.save_side_rows.new.saved c.save_side_rows-2.new.saved c.in_ok-save_side_rows-2.ensures in
    let left_rest = waiting_added 2 (left_pending s) c.save_side_rows-2.new.saved c.save_side_waiting.new.saved c.in_ok-save_side_waiting.ensures in
    let right_rest = waiting_added 3 (right_pending s) c.save_side_waiting.new.saved c.save_side_waiting-2.new.saved c.in_ok-save_side_waiting-2.ensures in
    omega (arith, none, left, right, left_rest, right_rest)

pub returns-clause-sound : goal.returns-clause-sound
returns-clause-sound c = λ l r to fits.
    let s = c.args.self.now in
    let once : IsProp (JoinSound l r to c.save_side_waiting-2.new.saved) = hlevel props in
    ∥∥₁_elim fits once (λ w.
    join_saved (left_rows s) (right_rows s) (queued (left_pending s)) (queued (right_pending s)) c.in_ok-saved.saved c.save_side_rows.new.saved c.save_side_rows-2.new.saved c.save_side_waiting.new.saved c.save_side_waiting-2.new.saved
    c.in_ok-saved.ensures c.in_ok-save_side_rows.ensures c.in_ok-save_side_rows-2.ensures c.in_ok-save_side_waiting.ensures c.in_ok-save_side_waiting-2.ensures
    l r to w.left.started w.right.started w.left.later w.right.later)

pub returns-clause-resumes : goal.returns-clause-resumes
returns-clause-resumes c = λ to hl hr out k.
    let s = c.args.self.now in
    join_resumed (left_rows s) (right_rows s) (queued (left_pending s)) (queued (right_pending s)) c.in_ok-saved.saved c.save_side_rows.new.saved c.save_side_rows-2.new.saved c.save_side_waiting.new.saved c.save_side_waiting-2.new.saved
    c.in_ok-saved.ensures c.in_ok-save_side_rows.ensures c.in_ok-save_side_rows-2.ensures c.in_ok-save_side_waiting.ensures c.in_ok-save_side_waiting-2.ensures
    s.rows.left_key.items s.rows.right_key.items to hl hr out k.kept
