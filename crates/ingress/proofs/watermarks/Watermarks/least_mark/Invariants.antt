use Rattle.std.proofs.Common.{◌≡◌}
use Rattle.admission.specs.Admission.{least}
use Rattle.ingress.specs.Streams.{mark_in}
use Rattle.ingress.proofs.watermarks.Watermarks.least_mark.Given as goal

abbrev pub invariant-loop-stream : goal.invariant-loop-stream
invariant-loop-stream l = l.mark ≡ least l.stream (mark_in l.self.streams.items)
