-- The key columns before this one are in the hash.
use Rattle.std.proofs.Common.{◌≡◌, take}
use Rattle.lane_expr.specs.Running.{cells_of}
use Rattle.lane_expr.specs.Hash.{hash_of}
use Rattle.lane_expr.proofs.hash.hash_at.Given as goal

abbrev pub invariant-loop-column : goal.invariant-loop-column
invariant-loop-column l = l.hash ≡ hash_of (cells_of l.batch.rows l.row) (take l.column-index l.key)
