-- What a list gains in batches.
use Rattle.std.specs.Prelude.{◌≡◌, ◌-◌, ◌≤◌}
use Rattle.batch.specs.PoolsView.{PoolsView}
use Rattle.edge_stream.specs.Listing.{EdgeListView, cells_of, SameShape}
use Rattle.edge_stream.specs.Taking.{batches_taken}

-- the list has as many batches as before or more, of the same shape, and the columns of each further one came from the pools
pub record HasGrown (old new : EdgeListView) (before after : PoolsView) : Type 0 where
  pub shape : SameShape old new
  pub batches : old.batches ≤ new.batches
  pub pools : after ≡ batches_taken (new.batches - old.batches) before (cells_of old)
