use Rattle.std.proofs.Common.{◌≡◌, sym, subst}
use Rattle.edge_history.specs.Order.{failing, is_from}
use Rattle.sweep_sides.specs.Waiting.{queued}
use Rattle.sweep_sides.proofs.Queued.{taking_more, rest_waits}
use Rattle.sweep_sides.proofs.waiting.take_due.Goals as goal

pub loop-edge-preserved : goal.loop-edge-preserved
loop-edge-preserved c =
    let s = c.in-Some.ensures.some in
    taking_more c.args.to c.args.queue.now c.loop-edge.queue c.pop_due.new.self c.loop-edge.due.items c.push.new.self.items c.in-Some.edge s.0 s.1 s.2 s.3
    c.in_ok-push.ensures.items c.loop-edge.invariant

pub returns-clause-rest : goal.returns-clause-rest
returns-clause-rest c = λ t.
    subst (λ q. failing (is_from c.args.to) (queued q) ≡ 0) (sym c.in_default.ensures.unchanged) (rest_waits c.args.to c.loop-edge.queue c.in_default.ensures.none (c.loop-edge.invariant.timed t))
