use Rattle.std.proofs.Common.{ap, arith, length}
use Rattle.std.proofs.Math.Logic.{∥∥₁_elim}
use Rattle.std.proofs.Props.{props}
use Rattle.sweep_sides.specs.Waiting.{queued}
use Rattle.sweep_sides.proofs.KeptSides.{rows_added, waiting_added}
use Rattle.outer_top.specs.TopKeys.{kept_rows}
use Rattle.outer_top.specs.States.{TopSound}
use Rattle.outer_top.proofs.Resuming.{top_saved, top_resumed}
use Rattle.outer_top.proofs.side.TopSideSweep.save.Goals as goal

pub returns-clause-few : goal.returns-clause-few
returns-clause-few c =
    let s = c.args.self.now in
    let none = ap length c.new-saved.ensures in
    let rows = rows_added 0 (kept_rows s.tops.keys.entries) c.new-saved.result c.save_keys.new.saved c.in_ok-save_keys.ensures in
    let waiting = waiting_added 1 s.waiting c.save_keys.new.saved c.save_waiting.new.saved c.in_ok-save_waiting.ensures in
    let shown = rows_added 2 s.queues c.save_waiting.new.saved c.save.new.saved c.in_ok-save.ensures in
    omega (arith, none, rows, waiting, shown)

pub returns-clause-sound : goal.returns-clause-sound
returns-clause-sound c = λ l r to fits.
    let s = c.args.self.now in
    let once : IsProp (TopSound l to c.save.new.saved) = hlevel props in
    ∥∥₁_elim fits once (λ w.
    top_saved (kept_rows s.tops.keys.entries) (queued s.waiting) s.queues c.new-saved.result c.save_keys.new.saved c.save_waiting.new.saved c.save.new.saved
    c.new-saved.ensures c.in_ok-save_keys.ensures c.in_ok-save_waiting.ensures c.in_ok-save.ensures l to w.side.started w.side.later w.shown)

pub returns-clause-resumes : goal.returns-clause-resumes
returns-clause-resumes c = λ to hl hr out k.
    let s = c.args.self.now in
    let t = s.tops in
    top_resumed (kept_rows t.keys.entries) (queued s.waiting) s.queues c.new-saved.result c.save_keys.new.saved c.save_waiting.new.saved c.save.new.saved
    c.new-saved.ensures c.in_ok-save_keys.ensures c.in_ok-save_waiting.ensures c.in_ok-save.ensures t.key.columns t.by t.most to hl out k.kept
