use Rattle.std.specs.Prelude.{◌+◌}
use Rattle.std.proofs.Common.{sym, ap, subst, ◌∙◌}
use Rattle.tw_rows.specs.Bag.{total}
use Rattle.sweep_sides.specs.Waiting.{queued, AreTimed}
use Rattle.snapshot_agg.proofs.PuttingOff.{all_popped}
use Rattle.snapshot_agg.proofs.Queueing.{both_popped, own_others}
use Rattle.snapshot_agg.proofs.queue.Queue.pop_all.Goals as goal

pub returns : goal.returns
returns c =
    let q = c.self.inside in
    let h = c.in_ok-pop_all.ensures in
    let own = own_others q.others q.line.items (subst AreTimed (sym c.self.view_is) c.requires.own) in
    let p = all_popped c.args.to q.others c.pop_all.new.self h.0 c.args.due.now.items c.pop_all.new.due.items h.1 h.2 h.3 h.4 own in
    let b = both_popped c.args.to c.count_below-count.result q.others c.pop_all.new.self q.line.items c.move_first.new.line.items c.args.due.now.items c.pop_all.new.due.items c.move_first.new.due.items p
    c.count_below-count.ensures.below (c.count_below-count.ensures.from c.self.invariant) c.in_ok-move_first.ensures.line c.in_ok-move_first.ensures.due in
    record { parts = λ w. b.parts w ∙ ap (λ ps. total w c.args.due.now.items + total w (queued ps)) c.self.view_is; below = b.below; later = b.later; own = b.own }
