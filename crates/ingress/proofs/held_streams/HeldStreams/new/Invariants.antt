use Rattle.std.proofs.Common.{◌≡◌, replicate, []}
use Rattle.ingress.proofs.held_streams.HeldStreams.new.Given as goal

abbrev pub invariant-loop-columns : goal.invariant-loop-columns
invariant-loop-columns l = l.waiting.items ≡ replicate l.columns-index []
