use Rattle.std.proofs.Common.{◌≡◌, replicate}
use Rattle.ingress.specs.Streams.{unraised}
use Rattle.ingress.proofs.watermarks.Watermarks.new.Given as goal

abbrev pub invariant-loop : goal.invariant-loop
invariant-loop l = l.watermarks.items ≡ replicate l.counter unraised
