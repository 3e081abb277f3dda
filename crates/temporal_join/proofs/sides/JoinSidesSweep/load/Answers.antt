use Rattle.std.proofs.Common.{rules, map, ap}
use Rattle.tw_rows.specs.Kinds.{cell_kind_of}
use Rattle.edge_stream.specs.Entries.{part_of}
use Rattle.sweep_laws.specs.Saving.{rows_of}
use Rattle.sweep_sides.specs.Waiting.{queued}
use Rattle.temporal_join.specs.States.{JoinSound, left_rows, right_rows, left_pending, right_pending}
use Rattle.temporal_join.proofs.Resuming.{join_loaded}
use Rattle.temporal_join.proofs.sides.JoinSidesSweep.load.Goals as goal

pub returns-clause-resumed : goal.returns-clause-resumed
returns-clause-resumed c = λ hl hr out r.
    let old = c.args.self.now.rows in
    let new = c.take_up.new.self in
    let entries = c.args.saved.now in
    let t = c.in_ok-take_up.ensures in
    let lc = map cell_kind_of c.args.left_kinds.now in
    let rc = map cell_kind_of c.args.right_kinds.now in
    let sound : JoinSound lc rc c.args.to entries = search rules in
    let e = c.requires in
    let fits = t.sides e lc rc c.args.to sound in
    record {
      by = t.by e;
      left_timed = fits.left.timed;
      right_timed = fits.right.timed;
      kept = join_loaded old.left_key.items old.right_key.items new.rows.left_key.items new.rows.right_key.items c.args.to
          (rows_of (part_of 0 entries)) (rows_of (part_of 1 entries)) (left_rows new) (right_rows new) (part_of 2 entries) (part_of 3 entries) (queued (left_pending new)) (queued (right_pending new)) hl hr out
          (ap (λ v. v.items) t.left_key) (ap (λ v. v.items) t.right_key) (t.left e) (t.right e) (t.left_waiting e) (t.right_waiting e) r;
    }

pub returns-clause-fits : goal.returns-clause-fits
returns-clause-fits c =
    let lc = map cell_kind_of c.args.left_kinds.now in
    let rc = map cell_kind_of c.args.right_kinds.now in
    let sound : JoinSound lc rc c.args.to c.args.saved.now = search rules in
    c.in_ok-take_up.ensures.sides c.requires lc rc c.args.to sound
