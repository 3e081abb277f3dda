-- The results of the rows before this block.
use Rattle.std.proofs.Common.{◌≡◌, ℕ, ◌*◌, ◌<◌, length, map, min}
use Rattle.std.specs.Prelude.{slice_index_or}
use Rattle.lane_expr.specs.Steps.{expr_of}
use Rattle.lane_expr.specs.Registers.{AreFilled}
use Rattle.lane_expr.specs.Running.{no_row}
use Rattle.lane_expr.specs.Kernels.{IsResult}
use Rattle.lane_expr.proofs.maps.fill.Given as goal

abbrev pub invariant-loop-block : goal.invariant-loop-block
invariant-loop-block g l = record {
  kinds : map (λ r. r.kind) l.registers ≡ map (λ r. r.kind) l.fn.registers;
  filled : AreFilled l.steps l.registers;
  room : l.out.capacity ≡ l.fn.out.capacity;
  so_far : length l.out.items ≡ min (64 * l.block) (length l.batch.rows);
  results : (i : ℕ) → i < length l.out.items →
      IsResult l.texts (expr_of l.texts l.steps) (slice_index_or l.batch.rows i no_row) (g.C.Lane.datum (slice_index_or l.out.items i g.C.Lane.blank));
}
