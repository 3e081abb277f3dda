-- The batches from this one on hold no edge.
use Rattle.std.proofs.Common.{◌≡◌, [], drop}
use Rattle.edge_stream.specs.Listing.{edges_in}
use Rattle.edge_stream.proofs.counted.last_of.Given as goal

abbrev pub invariant-loop-place : goal.invariant-loop-place
invariant-loop-place l = edges_in (drop l.place l.batches.items) ≡ []
