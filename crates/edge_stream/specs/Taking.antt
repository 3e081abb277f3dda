-- What lists of edges take from pools, and give back.
use Rattle.std.specs.Prelude.{ℕ, zero, suc, List}
use Rattle.tw_rows.specs.declared.kind.CellKind.{CellKind}
use Rattle.batch.specs.PoolsView.{PoolsView, batch_taken, batch_given, IsPartTaken}
use Rattle.edge_stream.specs.Listing.{EdgeListView, cells_of, where_full}

-- once the columns of so many batches of these kinds are taken
abbrev pub batches_taken : ℕ → PoolsView → List CellKind → PoolsView
batches_taken zero s kinds = s
batches_taken (suc n) s kinds = batch_taken (batches_taken n s kinds) kinds

-- once the columns of so many batches of these kinds are given back
abbrev pub batches_given : ℕ → PoolsView → List CellKind → PoolsView
batches_given zero s kinds = s
batches_given (suc n) s kinds = batches_given n (batch_given s kinds) kinds

-- once an edge is added to the list: nothing is taken while its last batch has room, and else the columns of one batch
abbrev pub room_taken : EdgeListView → PoolsView → PoolsView
room_taken l s = where_full l.room (batch_taken s (cells_of l)) s

-- new is what is left of old once some batches of these kinds are taken, and some first part of one more
pub record AreBatchesTaken (old new : PoolsView) (kinds : List CellKind) : Type 0 where
  pub whole : ℕ
  pub part : IsPartTaken (batches_taken whole old kinds) new kinds
