-- The occupied rows so far have their bits, and the other bits are 0.
use Rattle.std.proofs.Common.{◌≡◌, ℕ, ◌<◌, ◌≤◌, [], true, false}
use Rattle.std.specs.Prelude.{slice_index_or}
use Rattle.std.specs.Ordering.{nat_cmp}
use Rattle.std.specs.Cmp.Lexicographic.{slice_cmp}
use Rattle.occupancy.specs.Bits.{test}
use Rattle.lane_expr.specs.Lanes.{place}
use Rattle.plan_model.specs.Expr.{is_met}
use Rattle.lane_expr.proofs.compare.order_texts.Given as goal

abbrev pub invariant-loop-j : goal.invariant-loop-j
invariant-loop-j l = record {
  set : (i : ℕ) → i < l.j → test l.occupied i ≡ true → test l.word i ≡ is_met l.op (slice_cmp nat_cmp (slice_index_or l.texts (place l.left.lanes i) []) (slice_index_or l.texts (place l.right.lanes i) []));
  rest : (i : ℕ) → l.j ≤ i → i < 64 → test l.word i ≡ false;
}
