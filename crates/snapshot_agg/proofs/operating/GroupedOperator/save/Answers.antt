use Rattle.std.specs.Prelude.{◌++◌, length, map, refl}
use Rattle.std.proofs.Common.{◌∙◌, ap, sym, arith}
use Rattle.tw_rows.specs.Kinds.{cell_kind_of}
use Rattle.edge_stream.specs.Entries.{entries_of}
use Rattle.edge_stream.proofs.CarriedParts.{saved_length}
use Rattle.sweep_laws.specs.Moves.{start_of}
use Rattle.sweep_laws.specs.Saving.{starts_of}
use Rattle.sweep_sides.specs.Waiting.{queued}
use Rattle.snapshot_agg.specs.Counting.{pending_of}
use Rattle.snapshot_agg.proofs.Kept.{length_map}
use Rattle.snapshot_agg.proofs.Lined.{saved_both}
use Rattle.snapshot_agg.proofs.Queueing.{pending_edges, pending_length}
use Rattle.snapshot_agg.proofs.Reloading.{saved_sound, saved_resumes}
use Rattle.snapshot_agg.proofs.operating.GroupedOperator.save.Goals as goal

pub returns-clause-few : goal.returns-clause-few
returns-clause-few c =
    let s = c.args.self.now in
    let ends = s.groups.rows.rows.ends in
    let none = ap length c.in_ok-saved.ensures in
    let rows = saved_length c.in_ok-saved.saved c.save.new.saved 0 (starts_of s.groups.rows.rows.held) c.in_ok-save.ensures in
    let kept = saved_length c.save.new.saved c.save_ends.new.saved 1 ends c.in_ok-save_ends.ensures in
    let waiting = saved_length c.save_ends.new.saved c.save-2.new.saved 1 (queued s.waiting) c.in_ok-save-2.ensures in
    let told = saved_length c.save-2.new.saved c.save_runs.new.saved 2 (map (λ e. start_of e.1) s.running.entries) c.in_ok-save_runs.ensures in
    let a = length_map start_of s.groups.rows.rows.held in
    let b = length_map (λ p. p.edge) s.waiting in
    let d = length_map (λ e. start_of e.1) s.running.entries in
    let f = pending_length ends s.waiting in
    omega (arith, none, rows, kept, waiting, told, a, b, d, f)

pub returns-clause-sound : goal.returns-clause-sound
returns-clause-sound c =
    let s = c.args.self.now in
    let g = s.groups in
    let ends = g.rows.rows.ends in
    saved_sound g.key.items g.aggs.items (map cell_kind_of s.left_kinds.items) (map cell_kind_of s.kinds.items) s.left_to g.rows.rows.held s.running (pending_of g s.waiting)
    (starts_of g.rows.rows.held) (ends ++ queued s.waiting) (map (λ e. start_of e.1) s.running.entries) refl (sym (pending_edges ends s.waiting)) refl
    c.save.new.saved c.save-2.new.saved c.save_runs.new.saved
    (c.in_ok-save.ensures ∙ ap (λ l. l ++ entries_of 0 (starts_of g.rows.rows.held)) c.in_ok-saved.ensures)
    (saved_both 1 c.save.new.saved c.save_ends.new.saved c.save-2.new.saved ends (queued s.waiting) c.in_ok-save_ends.ensures c.in_ok-save-2.ensures) c.in_ok-save_runs.ensures s.few.once
    (s.side c.requires) (s.runs c.requires)

pub returns-clause-resumes : goal.returns-clause-resumes
returns-clause-resumes c = λ texts hl hr out k.
    let s = c.args.self.now in
    let g = s.groups in
    let ends = g.rows.rows.ends in
    saved_resumes g.key.items g.aggs.items (map cell_kind_of s.left_kinds.items) (map cell_kind_of s.kinds.items) s.left_to g.rows.rows.held s.running (pending_of g s.waiting)
    (starts_of g.rows.rows.held) (ends ++ queued s.waiting) (map (λ e. start_of e.1) s.running.entries) refl (sym (pending_edges ends s.waiting)) refl
    c.save.new.saved c.save-2.new.saved c.save_runs.new.saved
    (c.in_ok-save.ensures ∙ ap (λ l. l ++ entries_of 0 (starts_of g.rows.rows.held)) c.in_ok-saved.ensures)
    (saved_both 1 c.save.new.saved c.save_ends.new.saved c.save-2.new.saved ends (queued s.waiting) c.in_ok-save_ends.ensures c.in_ok-save-2.ensures) c.in_ok-save_runs.ensures s.few.once
    ends s.waiting texts hl hr out refl (returns-clause-sound c) k
