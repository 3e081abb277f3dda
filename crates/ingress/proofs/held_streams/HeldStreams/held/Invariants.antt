use Rattle.std.proofs.Common.{◌≡◌, ◌+◌, ◌-◌, ◌^◌, min, length, take}
use Rattle.tw_rows.specs.Bag.{total}
use Rattle.ingress.specs.Keeping.{opens_in}
use Rattle.ingress.proofs.held_streams.HeldStreams.held.Given as goal

abbrev pub invariant-loop-waiting : goal.invariant-loop-waiting
invariant-loop-waiting l = l.held ≡ min (length (opens_in l.self.opens.starts.entries) + total (λ w. length w) (take l.waiting-index l.self.waiting.items)) (2 ^ 64 - 1)
