use Rattle.std.proofs.Common.{◌≡◌}
use Rattle.admission.specs.Admission.{least}
use Rattle.ingress.specs.Streams.{bound_in}
use Rattle.ingress.proofs.watermarks.Watermarks.least_bound.Given as goal

abbrev pub invariant-loop-stream : goal.invariant-loop-stream
invariant-loop-stream l = l.bound ≡ least l.stream (bound_in l.self.streams.items)
