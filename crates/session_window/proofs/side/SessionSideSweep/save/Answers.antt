use Rattle.std.proofs.Common.{ap, arith, length}
use Rattle.std.proofs.Math.Logic.{∥∥₁_elim}
use Rattle.std.proofs.Props.{props}
use Rattle.sweep_sides.specs.Waiting.{queued}
use Rattle.sweep_sides.proofs.KeptSides.{rows_added, waiting_added}
use Rattle.session_window.specs.States.{SessionSound}
use Rattle.session_window.proofs.Resuming.{session_saved, session_resumed}
use Rattle.session_window.proofs.side.SessionSideSweep.save.Goals as goal

pub returns-clause-few : goal.returns-clause-few
returns-clause-few c =
    let s = c.args.self.now in
    let none = ap length c.new-saved.ensures in
    let rows = rows_added 0 s.sessions.rows.rows c.new-saved.result c.save_open.new.saved c.in_ok-save_open.ensures in
    let waiting = waiting_added 1 s.waiting c.save_open.new.saved c.save_waiting.new.saved c.in_ok-save_waiting.ensures in
    omega (arith, none, rows, waiting)

pub returns-clause-sound : goal.returns-clause-sound
returns-clause-sound c = λ l r to fits.
    let s = c.args.self.now in
    let once : IsProp (SessionSound l to c.save_waiting.new.saved) = hlevel props in
    ∥∥₁_elim fits once (λ w.
    session_saved s.sessions.rows.rows (queued s.waiting) c.new-saved.result c.save_open.new.saved c.save_waiting.new.saved c.new-saved.ensures c.in_ok-save_open.ensures c.in_ok-save_waiting.ensures
    l to w.side.started w.side.later w.starts)

pub returns-clause-resumes : goal.returns-clause-resumes
returns-clause-resumes c = λ to hl hr out k.
    let s = c.args.self.now in
    record {
      ends = s.sessions.ends;
      kept = session_resumed s.sessions.rows.rows (queued s.waiting) c.new-saved.result c.save_open.new.saved c.save_waiting.new.saved c.new-saved.ensures c.in_ok-save_open.ensures c.in_ok-save_waiting.ensures
          s.sessions.rows.key s.sessions.timeout to s.sessions.ends hl out k.kept;
    }
