-- While columns are made there are as many as the counter says, each empty and of the pool's capacity, and there is room up to the limit.
use Rattle.std.proofs.Common.{◌≡◌, ◌≤◌, [], max}
use Rattle.std.specs.Prelude.{All, vec_len, vec_capacity}
use Rattle.column_pool.proofs.pool.Pool.refill.Given as goal

abbrev pub invariant-loop : goal.invariant-loop
invariant-loop g l = record {
  counted : vec_len l.self-inside.columns ≡ l.counter;
  at_least : l.fn.self.free ≤ l.counter;
  at_most : l.counter ≤ max l.fn.self.free l.n;
  within : l.counter ≤ l.self-inside.limit;
  room : l.self-inside.limit ≤ vec_capacity l.self-inside.columns;
  limit_stays : l.self-inside.limit ≡ l.fn.self.limit;
  capacity_stays : l.self-inside.capacity ≡ l.fn.self.capacity;
  empty : All (λ c. c ≡ record { items = []; capacity = l.self-inside.capacity }) l.self-inside.columns.items;
}
