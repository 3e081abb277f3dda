use Rattle.std.proofs.Common.{rules, ◌∙◌, map, ap}
use Rattle.tw_rows.specs.Kinds.{cell_kind_of}
use Rattle.edge_stream.specs.Entries.{part_of}
use Rattle.sweep_laws.specs.Saving.{rows_of}
use Rattle.sweep_sides.specs.Waiting.{queued}
use Rattle.union_clip.specs.States.{ClipSound}
use Rattle.union_clip.proofs.Resuming.{clip_loaded}
use Rattle.union_clip.proofs.sides.ClipSidesSweep.load.Goals as goal

pub returns-clause-resumed : goal.returns-clause-resumed
returns-clause-resumed c = λ hl hr out r.
    let old = c.args.self.now.rows in
    let new = c.take_up.new.self in
    let entries = c.args.saved.now in
    let t = c.in_ok-take_up.ensures in
    let lc = map cell_kind_of c.args.left_kinds.now in
    let rc = map cell_kind_of c.args.right_kinds.now in
    let sound : ClipSound lc rc c.args.to entries = search rules in
    let fits = t.sides lc rc c.args.to sound in
    record {
      left_timed = fits.left.timed;
      right_timed = fits.right.timed;
      kept = clip_loaded old.left.key old.right_key.columns new.rows.left.key new.rows.right_key.columns c.args.to
          (rows_of (part_of 0 entries)) new.rows.left.rows (part_of 1 entries) (part_of 2 entries) (queued new.left_waiting) (queued new.right_waiting) hl hr out
          (t.left_key ∙ c.requires.by_key) (ap (λ v. v.columns) t.right_key) t.rows t.left_waiting t.right_waiting r;
    }

pub returns-clause-fits : goal.returns-clause-fits
returns-clause-fits c =
    let lc = map cell_kind_of c.args.left_kinds.now in
    let rc = map cell_kind_of c.args.right_kinds.now in
    let sound : ClipSound lc rc c.args.to c.args.saved.now = search rules in
    c.in_ok-take_up.ensures.sides lc rc c.args.to sound
