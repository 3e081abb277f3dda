-- The registers are of their kinds, and those of the steps so far hold the results at each occupied row of the block.
use Rattle.std.proofs.Common.{◌≡◌, ℕ, ◌+◌, ◌*◌, ◌<◌, map, take}
use Rattle.lane_expr.specs.Running.{cells_of}
use Rattle.lane_expr.specs.Registers.{datum_at, IsOccupied, AreFilled}
use Rattle.lane_expr.proofs.Stepping.{Stands}
use Rattle.lane_expr.proofs.block.run.Given as goal

abbrev pub invariant-loop-to : goal.invariant-loop-to
invariant-loop-to l = record {
  kinds : map (λ r. r.kind) l.registers ≡ map (λ r. r.kind) l.fn.registers;
  filled : AreFilled l.steps l.registers;
  held : (j : ℕ) → j < 64 → IsOccupied l.batch.rows (64 * l.block + j) → Stands l.texts l.batch.kinds (cells_of l.batch.rows (64 * l.block + j)) l.steps l.to (take l.to (map (datum_at j) l.registers));
}
