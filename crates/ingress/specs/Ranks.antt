-- Edges in a map by rank.
use Rattle.std.specs.Prelude.{◌≡◌, ℕ, suc, ◌<◌, ◌≤◌, nat_eq, nat_lt, nat_le, ◌&&◌, Bool, List, [], ◌∷◌, flat_map, Vec}
use Rattle.tw_rows.specs.declared.edge.Edge.{Edge}
use Rattle.tw_rows.specs.declared.kind.CellKind.{CellKind}
use Rattle.batch.specs.PoolsView.{PoolsView}
use Rattle.edge_stream.specs.Listing.{EdgeListView, cells_of}
use Rattle.edge_stream.specs.Taking.{batches_taken}
use Rattle.edge_history.specs.Order.{rank, failing}

-- the edge has this rank: a start at 5 has 11
abbrev pub has_rank : ℕ → Edge → Bool
has_rank r e = nat_eq (rank e) r

-- the edge has a rank below r; it has r at most; its rank is from a on and below b. A start at 5 is below 12, up to 11, and
-- between 10 and 12
abbrev pub is_ranked_below : ℕ → Edge → Bool
is_ranked_below r e = nat_lt (rank e) r

abbrev pub is_up_to : ℕ → Edge → Bool
is_up_to r e = nat_le (rank e) r

abbrev pub is_between : ℕ → ℕ → Edge → Bool
is_between a b e = nat_le a (rank e) && nat_lt (rank e) b

-- the ranks rise from `low` on, and beside each stand edges of it alone
abbrev pub AreRanked : {S : Type 0} → ℕ → List (ℕ × Vec Edge S) → Type 0
AreRanked low [] = Unit {0}
AreRanked low (e ∷ es) = (low ≤ e.0) × (failing (has_rank e.0) e.1.items ≡ 0) × AreRanked (suc e.0) es

-- all edges, rank by rank
abbrev pub edges_at : {S : Type 0} → List (ℕ × Vec Edge S) → List Edge
edges_at entries = flat_map (λ e. e.1.items) entries

-- the first of the ranks is not below the end; of no ranks it holds
abbrev pub StartsFrom : {S : Type 0} → ℕ → List (ℕ × Vec Edge S) → Type 0
StartsFrom end [] = Unit {0}
StartsFrom end (e ∷ es) = end ≤ e.0

-- the first of the ranks, which is below the end, is gone
pub record IsShorterBelow {S : Type 0} (end : ℕ) (old new : List (ℕ × Vec Edge S)) : Type 0 where
  pub first : ℕ × Vec Edge S
  pub is : old ≡ first ∷ new
  pub below : first.0 < end

-- from one list and pools to others: the pools are what the batches of the list leave, as they were before
abbrev pub TakesBatches : EdgeListView → PoolsView → EdgeListView → PoolsView → Type 0
TakesBatches old before new after = (first : PoolsView) (kinds : List CellKind) → cells_of old ≡ kinds →
    before ≡ batches_taken old.batches first kinds → after ≡ batches_taken new.batches first kinds

-- what the batches of lists leave of the pools, list by list
abbrev pub lists_taken : PoolsView → List EdgeListView → PoolsView
lists_taken s [] = s
lists_taken s (l ∷ ls) = lists_taken (batches_taken l.batches s (cells_of l)) ls

-- the pools lend columns of the same capacity, and keep as many at most
pub record SamePools (old new : PoolsView) : Type 0 where
  pub capacity : new.capacity ≡ old.capacity
  pub limit : new.limit ≡ old.limit
