-- The rows before this one hold no edge, and the others are as they were.
use Rattle.std.proofs.Common.{◌≡◌, [], take, drop, length}
use Rattle.batch.specs.Rows.{edges_of}
use Rattle.edge_stream.proofs.rest.clear_first.Given as goal

abbrev pub invariant-loop-i : goal.invariant-loop-i
invariant-loop-i l = record {
  none : edges_of (take l.i l.batch.rows) ≡ [];
  rest : drop l.i l.batch.rows ≡ drop l.i l.fn.batch.rows;
  len : length l.batch.rows ≡ length l.fn.batch.rows;
  capacity : l.batch.capacity ≡ l.fn.batch.capacity;
  kinds : l.batch.kinds ≡ l.fn.batch.kinds;
}
