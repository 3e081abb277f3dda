-- All edges of the batches before this one come before the time, and are copied.
use Rattle.std.proofs.Common.{◌≡◌, ◌-◌, ◌≤◌, ◌++◌, true, take}
use Rattle.std.specs.List.{list_all}
use Rattle.edge_history.specs.Order.{is_below}
use Rattle.edge_stream.specs.Listing.{cells_of, edges_in}
use Rattle.edge_stream.specs.Taking.{batches_taken}
use Rattle.edge_stream.proofs.rest.copy_front.Given as goal

abbrev pub invariant-loop-place : goal.invariant-loop-place
invariant-loop-place l = record {
  edges : l.to.edges ≡ l.fn.to.edges ++ edges_in (take l.place l.batches.items);
  below : list_all (is_below l.t) (edges_in (take l.place l.batches.items)) ≡ true;
  kinds : l.to.kinds ≡ l.fn.to.kinds;
  capacity : l.to.capacity ≡ l.fn.to.capacity;
  batches : l.fn.to.batches ≤ l.to.batches;
  pools : l.pools ≡ batches_taken (l.to.batches - l.fn.to.batches) l.fn.pools (cells_of l.fn.to);
}
