use Rattle.std.proofs.Common.{◌∙◌, ◌++◌, ◌≤◌, ℕ, List, ap, subst, arith, length}
use Rattle.std.proofs.Math.Logic.{∥∥₁_elim}
use Rattle.std.proofs.Props.{props}
use Rattle.edge_history.specs.Order.{many}
use Rattle.synopsis.specs.Held.{is_of_key}
use Rattle.edge_stream.specs.Entries.{entries_of}
use Rattle.sweep_laws.specs.Saving.{starts_of}
use Rattle.sweep_sides.specs.Waiting.{queued}
use Rattle.sweep_sides.proofs.KeptSides.{rows_added, waiting_added}
use Rattle.anti_join.specs.States.{AntiSound}
use Rattle.anti_join.proofs.Resuming.{anti_saved, anti_resumed}
use Rattle.anti_join.proofs.sides.AntiSidesSweep.save.Goals as goal

pub returns-clause-few : goal.returns-clause-few
returns-clause-few c =
    let s = c.args.self.now in
    let none = ap length c.new-saved.ensures in
    let left = rows_added 0 s.rows.left.rows c.new-saved.result c.save_rows.new.saved c.in_ok-save_rows.ensures in
    let right = rows_added 1 s.rows.right.rows c.save_rows.new.saved c.save_rows-2.new.saved c.in_ok-save_rows-2.ensures in
    let left_rest = waiting_added 2 s.left_waiting c.save_rows-2.new.saved c.save_waiting.new.saved c.in_ok-save_waiting.ensures in
    let right_rest = waiting_added 3 s.right_waiting c.save_waiting.new.saved c.save_waiting-2.new.saved c.in_ok-save_waiting-2.ensures in
    let times = rows_added 4 c.rows.result.now.rows c.save_waiting-2.new.saved c.save_rows-3.new.saved c.in_ok-save_rows-3.ensures in
    let same = ap (λ rows. length rows) c.rows.ensures in
    omega (arith, none, left, right, left_rest, right_rest, times, same)

pub returns-clause-sound : goal.returns-clause-sound
returns-clause-sound c = λ l r to fits.
    let s = c.args.self.now in
    let once : IsProp (AntiSound s.rows.left.key l r to c.save_rows-3.new.saved) = hlevel props in
    ∥∥₁_elim fits once (λ w.
    anti_saved s.rows.left.rows s.rows.right.rows s.rows.times.rows (queued s.left_waiting) (queued s.right_waiting) c.new-saved.result c.save_rows.new.saved c.save_rows-2.new.saved c.save_waiting.new.saved c.save_waiting-2.new.saved c.save_rows-3.new.saved
    c.new-saved.ensures c.in_ok-save_rows.ensures c.in_ok-save_rows-2.ensures c.in_ok-save_waiting.ensures c.in_ok-save_waiting-2.ensures (c.in_ok-save_rows-3.ensures ∙ ap (λ rows. c.save_waiting-2.new.saved ++ entries_of 4 (starts_of rows)) c.rows.ensures)
    s.rows.left.key l r to w.sides.left.started w.sides.right.started w.sides.left.later w.sides.right.later w.sides.times
    (λ k. subst (λ (key : List ℕ). many (is_of_key key k) s.rows.times.rows ≤ 1) w.by.times (c.len.ensures.single k)))

pub returns-clause-resumes : goal.returns-clause-resumes
returns-clause-resumes c = λ to hl hr out k.
    let s = c.args.self.now in
    anti_resumed s.rows.left.rows s.rows.right.rows s.rows.times.rows (queued s.left_waiting) (queued s.right_waiting) c.new-saved.result c.save_rows.new.saved c.save_rows-2.new.saved c.save_waiting.new.saved c.save_waiting-2.new.saved c.save_rows-3.new.saved
    c.new-saved.ensures c.in_ok-save_rows.ensures c.in_ok-save_rows-2.ensures c.in_ok-save_waiting.ensures c.in_ok-save_waiting-2.ensures (c.in_ok-save_rows-3.ensures ∙ ap (λ rows. c.save_waiting-2.new.saved ++ entries_of 4 (starts_of rows)) c.rows.ensures)
    s.rows.left.key s.rows.right.key to hl hr out k.kept
