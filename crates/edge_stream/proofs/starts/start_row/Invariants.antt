-- No row before this one holds such a start.
use Rattle.std.proofs.Common.{◌≡◌, take}
use Rattle.batch.specs.Rows.{edges_of}
use Rattle.edge_history.specs.Order.{many, starts_it}
use Rattle.edge_stream.proofs.starts.start_row.Given as goal

abbrev pub invariant-loop-i : goal.invariant-loop-i
invariant-loop-i l = many (starts_it l.cells l.start) (edges_of (take l.i l.batch.rows)) ≡ 0
