-- The bits of the lanes so far tell of them, and the others are 0.
use Rattle.std.proofs.Common.{◌≡◌, ℕ, ◌*◌, ◌<◌, ◌≤◌, false}
use Rattle.std.specs.Prelude.{int_lt}
use Rattle.occupancy.specs.Bits.{test}
use Rattle.lane_expr.specs.Lanes.{number}
use Rattle.lane_expr.proofs.numbers.marks_below.Given as goal

abbrev pub invariant-loop-part : goal.invariant-loop-part
invariant-loop-part l = record {
  set : (k : ℕ) → k < 4 * l.part → test l.word k ≡ int_lt (number l.left.lanes k) (number l.right.lanes k);
  rest : (k : ℕ) → 4 * l.part ≤ k → k < 64 → test l.word k ≡ false;
}
