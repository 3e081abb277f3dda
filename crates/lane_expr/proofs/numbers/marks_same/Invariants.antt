-- The bits of the lanes so far tell of them, and the others are 0.
use Rattle.std.proofs.Common.{◌≡◌, ℕ, ◌*◌, ◌<◌, ◌≤◌, false}
use Rattle.std.specs.Ordering.{int_eq}
use Rattle.occupancy.specs.Bits.{test}
use Rattle.lane_expr.specs.Lanes.{number}
use Rattle.lane_expr.proofs.numbers.marks_same.Given as goal

abbrev pub invariant-loop-part : goal.invariant-loop-part
invariant-loop-part l = record {
  set : (k : ℕ) → k < 16 * l.part → test l.word k ≡ int_eq (number l.left.lanes k) (number l.right.lanes k);
  rest : (k : ℕ) → 16 * l.part ≤ k → k < 64 → test l.word k ≡ false;
}
