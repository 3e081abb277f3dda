-- The edges that are merged and those that are still to come are those of the lists; those that are merged come before
-- what is to come of each.
use Rattle.std.proofs.Common.{◌≡◌, ◌≤◌, ◌+◌, ◌++◌, ℕ, map, take, length}
use Rattle.std.specs.Prelude.{All, vec_len, vec_capacity}
use Rattle.tw_rows.specs.Bag.{total}
use Rattle.tw_rows.specs.Kinds.{cell_kind_of}
use Rattle.tw_rows.specs.declared.edge.Edge.{Edge}
use Rattle.edge_history.specs.Order.{KeepsOrder}
use Rattle.edge_stream.specs.Listing.{IsFilled}
use Rattle.edge_stream.specs.Taking.{batches_taken}
use Rattle.edge_stream.proofs.Together.{unread_of}
use Rattle.edge_stream.proofs.list.EdgeList.merged.Given as goal

abbrev pub invariant-loop-list : goal.invariant-loop-list
invariant-loop-list l = record {
  items : l.cursors.items ≡ map unread_of (take l.list-index l.lists);
  order : All (λ c. KeepsOrder c.edges) l.cursors.items;
  count : vec_len l.cursors ≡ l.list-index;
  room : length l.lists ≤ vec_capacity l.cursors;
}

abbrev pub invariant-loop-first : goal.invariant-loop-first
invariant-loop-first l = record {
  weigh : (w : Edge → ℕ) → total w l.whole.edges + total (λ c. total w c.edges) l.cursors.items ≡ total (λ x. total w x.edges) l.lists;
  order : All (λ c. KeepsOrder (l.whole.edges ++ c.edges)) l.cursors.items;
  alone : KeepsOrder l.whole.edges;
  cells : All (λ c. c.kinds ≡ map cell_kind_of l.kinds) l.cursors.items;
  kinds : l.whole.kinds ≡ l.kinds;
  capacity : l.whole.capacity ≡ l.fn.pools.capacity;
  room : l.pools.capacity ≡ l.fn.pools.capacity;
  filled : IsFilled l.whole;
  taken : l.pools ≡ batches_taken l.whole.batches l.fn.pools (map cell_kind_of l.kinds);
}

abbrev pub decreases-loop-first : goal.decreases-loop-first
decreases-loop-first l = total (λ c. length c.edges) l.cursors.items
