use Rattle.std.proofs.Common.{◌≡◌, ◌+◌, take}
use Rattle.ingress.specs.Slices.{all_below}
use Rattle.ingress.proofs.held_streams.HeldStreams.room_left.Given as goal

abbrev pub invariant-loop-waiting : goal.invariant-loop-waiting
invariant-loop-waiting l =
    all_below l.to (take l.waiting-index l.self.waiting.items) + l.rest ≡ all_below l.from (take l.waiting-index l.self.waiting.items) + l.room
