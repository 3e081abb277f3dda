use Rattle.std.proofs.Common.{◌≡◌, ℕ, ◌<◌, length, pos}
use Rattle.std.specs.Int.{int_div_euclid}
use Rattle.lane_expr.specs.Lanes.{number}
use Rattle.lane_expr.proofs.Signed.{IsWhole}
use Rattle.lane_expr.proofs.numbers.quotients.Given as goal

abbrev pub invariant-loop-k : goal.invariant-loop-k
invariant-loop-k l = record {
  long : length l.into.lanes ≡ 64;
  value : (j : ℕ) → j < l.k → number l.into.lanes j ≡ int_div_euclid (number l.of.lanes j) (pos l.by.by);
  whole : IsWhole l.into.lanes;
}
