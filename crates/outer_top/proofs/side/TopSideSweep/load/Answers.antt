use Rattle.std.proofs.Common.{rules, ◌∙◌, map, sym}
use Rattle.tw_rows.specs.Kinds.{cell_kind_of}
use Rattle.edge_stream.specs.Entries.{part_of}
use Rattle.sweep_sides.specs.Waiting.{queued}
use Rattle.sweep_laws.specs.Saving.{rows_of}
use Rattle.outer_top.specs.TopKeys.{kept_rows}
use Rattle.outer_top.specs.TopEvents.{AreSettled}
use Rattle.outer_top.specs.States.{TopSound, TopKeeps}
use Rattle.outer_top.proofs.TopSteps.{for_like}
use Rattle.outer_top.proofs.Resuming.{top_loaded}
use Rattle.outer_top.proofs.side.TopSideSweep.load.Goals as goal

pub returns-clause-resumed : goal.returns-clause-resumed
returns-clause-resumed c = λ hl hr out r.
    let tops = c.args.self.now.tops in
    let l = c.in_ok-side.ensures in
    let new = c.in_ok-side.side in
    let kinds = map cell_kind_of c.args.left_kinds.now in
    let saved = c.args.saved.now in
    let to = c.args.to in
    let low = c.word.ensures.within in
    let sound : TopSound kinds to saved = search rules in
    record {
      timed = (l.side kinds to low sound).timed;
      settled = for_like (λ cs b ms. AreSettled cs b ms new.tops.keys.entries) new.tops.key.columns c.columns.result.now new.tops.by tops.by new.tops.most tops.most (sym l.key) (sym l.by) (sym l.most) l.settled;
      kept = for_like (λ cs b ms. TopKeeps cs b ms (kept_rows new.tops.keys.entries) (queued new.waiting) new.queues to hl out) new.tops.key.columns tops.key.columns new.tops.by tops.by new.tops.most tops.most
          (sym (l.key ∙ c.columns.ensures)) (sym l.by) (sym l.most)
          (top_loaded tops.key.columns tops.by tops.most to (rows_of (part_of 0 saved)) (kept_rows new.tops.keys.entries)
          (part_of 1 saved) (queued new.waiting) (rows_of (part_of 2 saved)) new.queues hl out (l.rows kinds to low sound) l.waiting l.queues r);
    }

pub returns-clause-fits : goal.returns-clause-fits
returns-clause-fits c =
    let kinds = map cell_kind_of c.args.left_kinds.now in
    let sound : TopSound kinds c.args.to c.args.saved.now = search rules in
    record { side = c.in_ok-side.ensures.side kinds c.args.to c.word.ensures.within sound; shown = c.in_ok-side.ensures.shown kinds c.args.to sound }
