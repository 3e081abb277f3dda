use Rattle.std.proofs.Common.{ℕ, ◌<◌, w64}
use Rattle.std.specs.Int.RustNames.{FitsSigned}
use Rattle.lane_expr.specs.Lanes.{number}
use Rattle.lane_expr.proofs.numbers.tell_whole.Given as goal

abbrev pub invariant-loop-k : goal.invariant-loop-k
invariant-loop-k l = (j : ℕ) → j < l.k → FitsSigned w64 (number l.numbers j)
