use Rattle.std.proofs.Common.{◌≡◌, ℕ, ◌+◌, ◌<◌, length}
use Rattle.lane_expr.specs.Lanes.{place}
use Rattle.lane_expr.proofs.places.load_places.Given as goal

abbrev pub invariant-loop-k : goal.invariant-loop-k
invariant-loop-k l = record {
  long : length l.into.lanes ≡ 64;
  value : (j : ℕ) → j < l.k → place l.into.lanes j ≡ place l.column (l.first + j);
}
