use Rattle.std.proofs.Common.{◌≡◌, ◌++◌, take}
use Rattle.ingress.specs.Loaded.{waits_from}
use Rattle.ingress.proofs.held_streams.HeldStreams.save_waiting.Given as goal

abbrev pub invariant-loop-stream : goal.invariant-loop-stream
invariant-loop-stream l = l.saved ≡ l.fn.saved ++ waits_from 0 (take l.stream l.self.waiting.items)
