-- The rows before this one are changed.
use Rattle.std.proofs.Common.{◌≡◌, ◌++◌, map, take, drop, length}
use Rattle.lifetime_ops.specs.Times.{new_row}
use Rattle.lifetime_ops.proofs.change.Change.set_times.Given as goal

abbrev pub invariant-loop-i : goal.invariant-loop-i
invariant-loop-i l = record {
  rows : l.batch.rows ≡ map (new_row l.self) (take l.i l.initial.batch.rows) ++ drop l.i l.initial.batch.rows;
  len : length l.batch.rows ≡ length l.initial.batch.rows;
  capacity : l.batch.capacity ≡ l.initial.batch.capacity;
  kinds : l.batch.kinds ≡ l.initial.batch.kinds;
}
