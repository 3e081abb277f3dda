use Rattle.std.proofs.Common.{[], map, min, refl}
use Rattle.tw_rows.specs.Kinds.{cell_kind_of}
use Rattle.sweep_sides.specs.Waiting.{queued}
use Rattle.follow_op.specs.Operating.{standing}
use Rattle.follow_op.proofs.Resuming.{follow_rows_stored, follow_longer, follow_stands, follow_bound}
use Rattle.follow_op.proofs.operating.FollowOperator.laws.Goals as goal

pub returns-clause-stands : goal.returns-clause-stands
returns-clause-stands c = λ s texts hl hr out apart k.
    let r = s.sides.rows in
    follow_stands r.left.key r.right_key.columns r.within (map cell_kind_of s.left_kinds.items) (map cell_kind_of s.right_kinds.items) texts s.left_to s.right_to r.left.rows r.queue.items
    (queued s.sides.left_waiting) (queued s.sides.right_waiting) hl hr out apart k

pub returns-clause-grows : goal.returns-clause-grows
returns-clause-grows c = λ s new old hl hr out b k.
    let r = s.sides.rows in
    follow_longer r.left.key r.right_key.columns r.within (map cell_kind_of s.left_kinds.items) (map cell_kind_of s.right_kinds.items) new old s.left_to s.right_to r.left.rows r.queue.items
    (queued s.sides.left_waiting) (queued s.sides.right_waiting) hl hr out b k

pub returns-clause-bounded : goal.returns-clause-bounded
returns-clause-bounded c = λ s texts hl hr out k.
    let r = s.sides.rows in
    follow_bound r.left.key r.right_key.columns r.within (map cell_kind_of s.left_kinds.items) (map cell_kind_of s.right_kinds.items) texts s.left_to s.right_to r.left.rows r.queue.items
    s.sides.left_waiting s.sides.right_waiting hl hr out [] k

pub returns-clause-rows : goal.returns-clause-rows
returns-clause-rows c = λ s saved x y sound.
    follow_rows_stored (standing s) saved (min x y) (map cell_kind_of s.left_kinds.items) (map cell_kind_of s.right_kinds.items) refl refl sound
