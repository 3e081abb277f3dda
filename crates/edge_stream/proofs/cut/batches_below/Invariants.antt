-- The edges of the batches before this one lie below the time.
use Rattle.std.proofs.Common.{◌≡◌, true, take}
use Rattle.std.specs.List.{list_all}
use Rattle.edge_history.specs.Order.{is_below}
use Rattle.edge_stream.specs.Listing.{edges_in}
use Rattle.edge_stream.proofs.cut.batches_below.Given as goal

abbrev pub invariant-loop-place : goal.invariant-loop-place
invariant-loop-place l = list_all (is_below l.t) (edges_in (take l.place l.batches.items)) ≡ true
