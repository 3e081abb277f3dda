-- The edges of the batches before this one have taken their places.
use Rattle.std.proofs.Common.{◌≡◌, ◌+◌, take}
use Rattle.edge_history.specs.Order.{many, is_below}
use Rattle.edge_stream.specs.Listing.{edges_in}
use Rattle.edge_stream.proofs.counted.left_of.Given as goal

abbrev pub invariant-loop-place : goal.invariant-loop-place
invariant-loop-place l = many (is_below l.to) (edges_in (take l.place l.batches.items)) + l.rest ≡ many (is_below l.from) (edges_in (take l.place l.batches.items)) + l.fn.room
