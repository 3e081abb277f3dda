-- The bits of the rows before this one are there.
use Rattle.std.proofs.Common.{◌≡◌, take, length}
use Rattle.edge_stream.specs.Sides.{side_bits}
use Rattle.edge_stream.proofs.cut.rows_on.Given as goal

abbrev pub invariant-loop-i : goal.invariant-loop-i
invariant-loop-i l = record {
  bits : l.mask.items ≡ side_bits l.side l.t (take l.i l.batch.rows);
  room : l.mask.capacity ≡ length l.batch.rows;
}
