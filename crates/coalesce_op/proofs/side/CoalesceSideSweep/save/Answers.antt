use Rattle.std.proofs.Common.{ap, arith, length}
use Rattle.std.proofs.Math.Logic.{∥∥₁_elim}
use Rattle.std.proofs.Props.{props}
use Rattle.sweep_sides.specs.Waiting.{queued}
use Rattle.sweep_sides.proofs.KeptSides.{rows_added, waiting_added}
use Rattle.coalesce_op.specs.States.{CoalesceSound}
use Rattle.coalesce_op.proofs.Resuming.{coalesce_saved, coalesce_resumed}
use Rattle.coalesce_op.proofs.side.CoalesceSideSweep.save.Goals as goal

pub returns-clause-few : goal.returns-clause-few
returns-clause-few c =
    let s = c.args.self.now in
    let none = ap length c.new-saved.ensures in
    let rows = rows_added 0 s.queues c.new-saved.result c.save.new.saved c.in_ok-save.ensures in
    let waiting = waiting_added 1 s.waiting c.save.new.saved c.save_waiting.new.saved c.in_ok-save_waiting.ensures in
    omega (arith, none, rows, waiting)

pub returns-clause-sound : goal.returns-clause-sound
returns-clause-sound c = λ l r to fits.
    let s = c.args.self.now in
    let once : IsProp (CoalesceSound l to c.save_waiting.new.saved) = hlevel props in
    ∥∥₁_elim fits once (λ w.
    coalesce_saved s.queues (queued s.waiting) c.new-saved.result c.save.new.saved c.save_waiting.new.saved c.new-saved.ensures c.in_ok-save.ensures c.in_ok-save_waiting.ensures
    l to w.started w.later)

pub returns-clause-resumes : goal.returns-clause-resumes
returns-clause-resumes c = λ to hl hr out k.
    let s = c.args.self.now in
    coalesce_resumed s.queues (queued s.waiting) c.new-saved.result c.save.new.saved c.save_waiting.new.saved c.new-saved.ensures c.in_ok-save.ensures c.in_ok-save_waiting.ensures
    to hl out k.kept
