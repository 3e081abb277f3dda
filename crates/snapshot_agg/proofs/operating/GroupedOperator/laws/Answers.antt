use Rattle.std.specs.Prelude.{length, map}
use Rattle.std.proofs.Common.{arith}
use Rattle.tw_rows.specs.Kinds.{cell_kind_of}
use Rattle.edge_history.proofs.Waiting.{side_bound}
use Rattle.edge_history.specs.History.{of}
use Rattle.sweep_sides.specs.Waiting.{queued}
use Rattle.snapshot_agg.specs.Counting.{pending_of}
use Rattle.snapshot_agg.specs.Operating.{standing}
use Rattle.snapshot_agg.proofs.Few.{few_runs, open_rows, group_held}
use Rattle.snapshot_agg.proofs.Kept.{length_map}
use Rattle.snapshot_agg.proofs.Reloading.{sound_stored}
use Rattle.snapshot_agg.proofs.Standing.{group_opening, group_longer, group_stands}
use Rattle.snapshot_agg.proofs.operating.GroupedOperator.laws.Goals as goal

pub returns-clause-fresh : goal.returns-clause-fresh
returns-clause-fresh c = λ s o. record { left = o.left; right = o.right; works = o.works }

pub returns-clause-opens : goal.returns-clause-opens
returns-clause-opens c = λ s texts o.
    group_opening s.groups.key.items s.groups.aggs.items (map cell_kind_of s.left_kinds.items) texts s.groups.rows.rows s.running s.waiting s.left_to s.right_to s.failed o

pub returns-clause-stands : goal.returns-clause-stands
returns-clause-stands c = λ s texts hl hr out apart k.
    group_stands 0 s.groups.key.items s.groups.aggs.items (map cell_kind_of s.left_kinds.items) texts s.groups.rows.rows s.running s.waiting s.left_to hl hr out apart k

pub returns-clause-grows : goal.returns-clause-grows
returns-clause-grows c = λ s new old hl hr out b k.
    group_longer s.groups.key.items s.groups.aggs.items (map cell_kind_of s.left_kinds.items) new old s.groups.rows.rows s.running s.waiting s.left_to hl hr out b k

pub returns-clause-bounded : goal.returns-clause-bounded
returns-clause-bounded c = λ s texts hl hr out k.
    let g = s.groups in
    let rows = g.rows.rows.held in
    let low = open_rows s.left_to rows (of hl) k.group.now.swept.alive_rows in
    let waiting = pending_of g s.waiting in
    let both = side_bound hl rows (queued waiting) s.left_to k.group.history k.group.now.swept.alive_rows k.group.waits in
    let w = length_map (λ p. p.edge) waiting in
    group_held g.key.items g.aggs.items s.left_to (length rows) (length g.totals.entries) (length s.running.entries) (length waiting) hl hr low (omega (arith, both, w)) s.few.keys
    (few_runs g.key.items g.aggs.items rows s.running s.few.once k.group.now.steady)

pub returns-clause-resumes_sound : goal.returns-clause-resumes_sound
returns-clause-resumes_sound c = λ s saved x y texts hl hr out r. r.sound

pub returns-clause-rows : goal.returns-clause-rows
returns-clause-rows c = λ s saved x y h. sound_stored (standing s) x saved h
