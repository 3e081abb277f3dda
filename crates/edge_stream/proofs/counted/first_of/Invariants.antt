-- No edge of the batches before this one comes at the time or later.
use Rattle.std.proofs.Common.{◌≡◌, [], take}
use Rattle.std.specs.Prelude.{filter}
use Rattle.edge_history.specs.Order.{is_from}
use Rattle.edge_stream.specs.Listing.{edges_in}
use Rattle.edge_stream.proofs.counted.first_of.Given as goal

abbrev pub invariant-loop-place : goal.invariant-loop-place
invariant-loop-place l = filter (is_from l.t) (edges_in (take l.place l.batches.items)) ≡ []
