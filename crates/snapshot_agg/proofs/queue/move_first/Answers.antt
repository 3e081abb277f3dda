use Rattle.std.specs.Prelude.{◌+◌}
use Rattle.std.proofs.Common.{sym, ◌∙◌}
use Rattle.snapshot_agg.proofs.Queueing.{next_dropped, next_moved, rises_on}
use Rattle.snapshot_agg.proofs.queue.move_first.Goals as goal

pub loop-preserved : goal.loop-preserved
loop-preserved c =
    let xs = c.args.line.now.items in
    let first = sym c.loop.invariant.0 ∙ c.in-Some.ensures.items in (
      sym (next_dropped c.loop.counter xs _ c.in-Some.edge first),
      next_moved c.loop.counter xs _ c.args.due.now.items c.loop.due.items c.push.new.self.items c.in-Some.edge first c.loop.invariant.1 c.in_ok-push-in-Some.ensures.items,
    )

pub returns-clause-rises : goal.returns-clause-rises
returns-clause-rises c = λ h. rises_on c.loop.counter c.args.line.now.items c.loop.line.items c.loop.invariant.0 h

pub returns-in_err-push-in-Some-clause-rises : goal.returns-in_err-push-in-Some-clause-rises
returns-in_err-push-in-Some-clause-rises c = λ h.
    let xs = c.args.line.now.items in
    let first = sym c.loop.invariant.0 ∙ c.in-Some.ensures.items in
    rises_on (c.loop.counter + 1) xs _ (sym (next_dropped c.loop.counter xs _ c.in-Some.edge first)) h
