use Rattle.std.proofs.Common.{map, min}
use Rattle.tw_rows.specs.Kinds.{cell_kind_of}
use Rattle.sweep_sides.specs.Waiting.{queued}
use Rattle.follow_op.proofs.Resuming.{follow_saved, follow_resumed}
use Rattle.follow_op.proofs.operating.FollowOperator.save.Goals as goal

pub returns-clause-sound : goal.returns-clause-sound
returns-clause-sound c =
    let s = c.args.self.now in
    let w = (s.working c.requires).sides in
    follow_saved s.sides.rows.left.rows (queued s.sides.left_waiting) (queued s.sides.right_waiting) c.new-saved.result c.save_rows.new.saved c.save_waiting.new.saved c.save_waiting-2.new.saved
    c.new-saved.ensures c.in_ok-save_rows.ensures c.in_ok-save_waiting.ensures c.in_ok-save_waiting-2.ensures
    (map cell_kind_of s.left_kinds.items) (map cell_kind_of s.right_kinds.items) (min s.left_to s.right_to) w.left.started w.left.later w.right.later w.left_starts w.right_starts

pub returns-clause-resumes : goal.returns-clause-resumes
returns-clause-resumes c = λ texts hl hr out k.
    let s = c.args.self.now in
    let r = s.sides.rows in
    follow_resumed r.left.rows (queued s.sides.left_waiting) (queued s.sides.right_waiting) c.new-saved.result c.save_rows.new.saved c.save_waiting.new.saved c.save_waiting-2.new.saved
    c.new-saved.ensures c.in_ok-save_rows.ensures c.in_ok-save_waiting.ensures c.in_ok-save_waiting-2.ensures
    r.left.key r.right_key.columns r.within (map cell_kind_of s.left_kinds.items) (map cell_kind_of s.right_kinds.items) texts s.left_to s.right_to r.queue.items hl hr out (returns-clause-sound c) k
