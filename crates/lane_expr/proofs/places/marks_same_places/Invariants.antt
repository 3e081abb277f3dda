-- The bits of the lanes so far tell of them, and the others are 0.
use Rattle.std.proofs.Common.{◌≡◌, ℕ, ◌*◌, ◌<◌, ◌≤◌, false, eqb}
use Rattle.occupancy.specs.Bits.{test}
use Rattle.lane_expr.specs.Lanes.{place}
use Rattle.lane_expr.proofs.places.marks_same_places.Given as goal

abbrev pub invariant-loop-part : goal.invariant-loop-part
invariant-loop-part l = record {
  set : (k : ℕ) → k < 16 * l.part → test l.word k ≡ eqb (place l.left.lanes k) (place l.right.lanes k);
  rest : (k : ℕ) → 16 * l.part ≤ k → k < 64 → test l.word k ≡ false;
}
