-- What is left lies between two rows: the edges before the one come before the time, and those from the other on do not.
use Rattle.std.proofs.Common.{◌≡◌, ◌-◌, ◌≤◌, true, take, drop, length}
use Rattle.std.specs.List.{list_all}
use Rattle.batch.specs.Rows.{edges_of}
use Rattle.edge_history.specs.Order.{is_below, is_from, Rises}
use Rattle.edge_stream.proofs.counted.row_from.Given as goal

abbrev pub invariant-halves : goal.invariant-halves
invariant-halves l = record {
  ordered : l.low ≤ l.high;
  within : l.high ≤ length l.batch.rows;
  room : l.high ≤ l.batch.capacity;
  below : Rises 0 (edges_of l.batch.rows) → list_all (is_below l.t) (edges_of (take l.low l.batch.rows)) ≡ true;
  from : Rises 0 (edges_of l.batch.rows) → list_all (is_from l.t) (edges_of (drop l.high l.batch.rows)) ≡ true;
}

abbrev pub decreases-halves : goal.decreases-halves
decreases-halves l = l.high - l.low
