-- No batch before this one holds such a start, and none is changed.
use Rattle.std.proofs.Common.{◌≡◌, take}
use Rattle.edge_history.specs.Order.{many, starts_it}
use Rattle.edge_stream.specs.Listing.{edges_in}
use Rattle.edge_stream.proofs.starts.take_start_of.Given as goal

abbrev pub invariant-loop-place : goal.invariant-loop-place
invariant-loop-place l = record {
  none : many (starts_it l.cells l.start) (edges_in (take l.place l.batches.items)) ≡ 0;
  same : l.batches.items ≡ l.fn.batches.items;
}
