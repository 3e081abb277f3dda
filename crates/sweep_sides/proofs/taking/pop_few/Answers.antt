use Rattle.sweep_sides.proofs.TakenIn.{taken_none, taken_more, one_out}
use Rattle.sweep_sides.proofs.taking.pop_few.Goals as goal

pub loop-init : goal.loop-init
loop-init c = taken_none c.args.below c.args.queue.now c.args.due.now.items

pub loop-preserved : goal.loop-preserved
loop-preserved c =
    let s = c.in-Some.ensures.some in
    taken_more c.args.below c.args.queue.now c.loop.queue c.pop_due.new.self c.args.due.now.items c.loop.due.items c.push.new.self.items c.loop.invariant
    (one_out c.args.below c.loop.queue c.pop_due.new.self s.0 c.in-Some.edge c.loop.due.items c.push.new.self.items s.1 s.2 s.3 c.in_ok-push.ensures.items)
