-- Edges that were carried, together with new ones.
use Rattle.std.specs.Prelude.{◌≡◌, ◌++◌}
use Rattle.tw_rows.specs.Bag.{SameBag}
use Rattle.edge_history.specs.Order.{KeepsOrder}
use Rattle.edge_stream.specs.Listing.{EdgeListView, cells_of}

-- `all` has the edges of both, in order, stored as those that were carried. Of a start at 3 that was carried, and of new ones at
-- 2 and 4: those at 2, 3 and 4
pub record AreTogether (carried new all : EdgeListView) : Type 0 where
  pub edges : SameBag all.edges (carried.edges ++ new.edges)
  pub order : KeepsOrder all.edges
  pub kinds : cells_of all ≡ cells_of carried
  pub capacity : all.capacity ≡ carried.capacity
