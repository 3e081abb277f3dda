use Rattle.std.proofs.Common.{rules, map}
use Rattle.tw_rows.specs.Kinds.{cell_kind_of}
use Rattle.edge_stream.specs.Entries.{part_of}
use Rattle.sweep_laws.specs.Saving.{rows_of}
use Rattle.sweep_sides.specs.Waiting.{queued}
use Rattle.coalesce_op.specs.States.{CoalesceSound}
use Rattle.coalesce_op.proofs.Resuming.{coalesce_loaded}
use Rattle.coalesce_op.proofs.side.CoalesceSideSweep.load.Goals as goal

pub returns-clause-resumed : goal.returns-clause-resumed
returns-clause-resumed c = λ hl hr out r.
    let new = c.in_ok-side.side in
    let l = c.in_ok-side.ensures in
    let saved = c.args.saved.now in
    let kinds = map cell_kind_of c.args.left_kinds.now in
    let sound : CoalesceSound kinds c.args.to saved = search rules in
    record {
      timed = (l.side kinds c.args.to sound).timed;
      kept = coalesce_loaded c.args.to (rows_of (part_of 0 saved)) new.queues (part_of 1 saved) (queued new.waiting) hl out l.queues l.waiting r;
    }

pub returns-clause-fits : goal.returns-clause-fits
returns-clause-fits c =
    let kinds = map cell_kind_of c.args.left_kinds.now in
    let sound : CoalesceSound kinds c.args.to c.args.saved.now = search rules in
    c.in_ok-side.ensures.side kinds c.args.to sound
