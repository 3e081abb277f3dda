use Rattle.std.proofs.Common.{refl, arith, ◌∙◌}
use Rattle.ingress.proofs.Fitting.{dropped_first, dropped_next, dropped_each}
use Rattle.ingress.proofs.held_streams.HeldStreams.drop_below.Goals as goal

pub loop-stream-init : goal.loop-stream-init
loop-stream-init c = record { dropped = dropped_first c.args.t c.args.self.now.waiting.items; opens = refl }

pub loop-stream-preserved : goal.loop-stream-preserved
loop-stream-preserved c = record {
  dropped = dropped_next c.args.t c.loop-stream.stream c.args.self.now.waiting.items c.loop-stream.self.waiting.items c.drop_one.new.self.waiting.items c.drop_one.ensures.changed c.drop_one.ensures.dropped c.loop-stream.invariant.dropped;
  opens = c.drop_one.ensures.opens ∙ c.loop-stream.invariant.opens;
}

pub returns-clause-waiting : goal.returns-clause-waiting
returns-clause-waiting c = dropped_each c.args.t c.loop-stream.stream c.args.self.now.waiting.items c.loop-stream.self.waiting.items (let a = c.len-stream-end.ensures in let b = c.loop-stream-test.false in omega (arith, a, b)) c.loop-stream.invariant.dropped
