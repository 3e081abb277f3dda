use Rattle.std.proofs.Common.{◌+◌, ◌-◌, ◌<◌, ◌≤◌}
use Rattle.ingress.specs.Slices.{edges_of, count_below}
use Rattle.ingress.proofs.list_slices.last_within.Given as goal

abbrev pub invariant-halves : goal.invariant-halves
invariant-halves l = record {
  from : l.from ≤ l.low;
  apart : l.low < l.high;
  high : l.high ≤ l.fn.p;
  few : count_below l.low (edges_of l.lists) ≤ count_below l.from (edges_of l.lists) + l.batch;
  more : count_below l.from (edges_of l.lists) + l.batch < count_below l.high (edges_of l.lists);
}

abbrev pub decreases-halves : goal.decreases-halves
decreases-halves l = l.high - l.low
