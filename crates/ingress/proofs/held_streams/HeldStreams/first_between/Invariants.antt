use Rattle.ingress.proofs.Below.{FirstOf}
use Rattle.ingress.proofs.held_streams.HeldStreams.first_between.Given as goal

abbrev pub invariant-loop-waiting : goal.invariant-loop-waiting
invariant-loop-waiting l = FirstOf l.from l.fn.to l.self.waiting.items l.waiting-index l.first
