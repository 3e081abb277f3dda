-- The lists that are left are those of the first shards.
use Rattle.std.proofs.Common.{◌≡◌, ◌<◌, ◌≤◌, ℕ, map, get_or, length}
use Rattle.edge_stream.specs.Listing.{EdgeListView}
use Rattle.shard_apply.specs.declared.shard.Shard.{Shard}
use Rattle.shard_apply.proofs.gather.give_back.Given as goal

abbrev pub invariant-loop-list : goal.invariant-loop-list
invariant-loop-list g l = record {
  each : (i : ℕ) (d : EdgeListView) (e : Shard g.row.O.Denot) → i < length l.lists.items → (get_or l.lists.items i d).capacity ≡ (get_or l.shards i e).pools.capacity;
  few : length l.lists.items ≤ length l.fn.shards;
  operators : map (λ s. s.operator) l.shards ≡ map (λ s. s.operator) l.fn.shards;
  capacities : map (λ s. s.pools.capacity) l.shards ≡ map (λ s. s.pools.capacity) l.fn.shards;
}

abbrev pub decreases-loop-list : goal.decreases-loop-list
decreases-loop-list g l = length l.lists.items
