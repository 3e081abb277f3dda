-- The rows before this one are hashed, and the others are as they were.
use Rattle.std.proofs.Common.{◌≡◌, ◌++◌, take, drop}
use Rattle.lane_expr.specs.Hash.{hashed}
use Rattle.lane_expr.proofs.hash.hash_keys.Given as goal

abbrev pub invariant-loop-row : goal.invariant-loop-row
invariant-loop-row l = record {
  rows : l.batch.rows ≡ hashed l.key (take l.row l.fn.batch.rows) ++ drop l.row l.fn.batch.rows;
  capacity : l.batch.capacity ≡ l.fn.batch.capacity;
  kinds : l.batch.kinds ≡ l.fn.batch.kinds;
}
