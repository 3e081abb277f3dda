-- The edges from the first row on and before this one are counted.
use Rattle.std.proofs.Common.{◌≡◌, ◌+◌, ◌<◌, take, length}
use Rattle.batch.specs.Rows.{edges_of}
use Rattle.edge_stream.proofs.counted.edges_between.Given as goal

abbrev pub invariant-loop-i : goal.invariant-loop-i
invariant-loop-i l = record {
  counted : length (edges_of (take l.from l.batch.rows)) + l.count ≡ length (edges_of (take l.i l.batch.rows));
  none : l.to < l.from → l.count ≡ 0;
}
