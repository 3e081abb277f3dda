use Rattle.std.proofs.Common.{◌≡◌}
use Rattle.ingress.proofs.Fitting.{DroppedTo}
use Rattle.ingress.proofs.held_streams.HeldStreams.drop_below.Given as goal

abbrev pub invariant-loop-stream : goal.invariant-loop-stream
invariant-loop-stream l = record {
  dropped : DroppedTo l.fn.t l.stream l.initial.self.waiting.items l.self.waiting.items;
  opens : l.self.opens ≡ l.initial.self.opens;
}
