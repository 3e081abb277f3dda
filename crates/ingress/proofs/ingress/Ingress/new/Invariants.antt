use Rattle.std.proofs.Common.{◌≡◌, map, take}
use Rattle.ingress.specs.Fits.{stream_kinds}
use Rattle.ingress.proofs.ingress.Ingress.new.Given as goal

abbrev pub invariant-loop-stream : goal.invariant-loop-stream
invariant-loop-stream l = map (λ k. k.items) l.kinds.items ≡ stream_kinds (take l.stream-index l.streams)
