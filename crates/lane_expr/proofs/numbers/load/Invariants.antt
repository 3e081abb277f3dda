use Rattle.std.proofs.Common.{◌≡◌, ℕ, ◌+◌, ◌<◌, length}
use Rattle.lane_expr.specs.Lanes.{number}
use Rattle.lane_expr.proofs.Signed.{IsWhole}
use Rattle.lane_expr.proofs.numbers.load.Given as goal

abbrev pub invariant-loop-k : goal.invariant-loop-k
invariant-loop-k l = record {
  long : length l.into.lanes ≡ 64;
  value : (j : ℕ) → j < l.k → number l.into.lanes j ≡ number l.column (l.first + j);
  whole : IsWhole l.into.lanes;
}
