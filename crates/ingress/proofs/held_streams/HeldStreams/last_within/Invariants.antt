use Rattle.std.proofs.Common.{◌≡◌, ◌+◌, ◌-◌, ◌<◌, ◌≤◌}
use Rattle.ingress.specs.Slices.{all_below}
use Rattle.ingress.proofs.held_streams.HeldStreams.last_within.Given as goal

abbrev pub invariant-steps : goal.invariant-steps
invariant-steps l = record {
  from : l.fn.first ≤ l.low;
  apart : l.low < l.high;
  within : all_below l.low l.self.waiting.items + l.room ≡ l.batch;
  more : l.batch < all_below l.high l.self.waiting.items;
  step : 1 ≤ l.step;
}

abbrev pub decreases-steps : goal.decreases-steps
decreases-steps l = l.high - l.low
