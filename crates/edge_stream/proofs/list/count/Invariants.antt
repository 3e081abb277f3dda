-- The edges of the batches before this one are counted.
use Rattle.std.proofs.Common.{◌≡◌, ◌-◌, ◌^◌, min, take, length}
use Rattle.edge_stream.specs.Listing.{edges_in}
use Rattle.edge_stream.proofs.list.count.Given as goal

abbrev pub invariant-loop-place : goal.invariant-loop-place
invariant-loop-place l = l.len ≡ min (length (edges_in (take l.place l.batches.items))) (2 ^ 64 - 1)
