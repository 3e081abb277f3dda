-- The bits of the rows before this block.
use Rattle.std.proofs.Common.{◌≡◌, ℕ, ◌*◌, ◌<◌, length, map, min}
use Rattle.occupancy.specs.Bits.{is_set_at}
use Rattle.lane_expr.specs.Steps.{expr_of}
use Rattle.lane_expr.specs.Registers.{is_met_at, AreFilled}
use Rattle.lane_expr.proofs.kernel.fill_mask.Given as goal

abbrev pub invariant-loop-block : goal.invariant-loop-block
invariant-loop-block l = record {
  kinds : map (λ r. r.kind) l.registers ≡ map (λ r. r.kind) l.fn.registers;
  filled : AreFilled l.steps l.registers;
  room : l.out.capacity ≡ l.fn.out.capacity;
  so_far : length l.out.items ≡ min (64 * l.block) (length l.batch.rows);
  bits : (i : ℕ) → i < length l.out.items → is_set_at l.out.items i ≡ is_met_at l.texts (expr_of l.texts l.steps) l.batch.rows i;
}
