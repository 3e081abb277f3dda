-- The pools so far have that room.
use Rattle.std.proofs.Common.{◌≡◌, length, All}
use Rattle.dataflow.proofs.sharding.pools_of.Given as goal

abbrev pub invariant-loop : goal.invariant-loop
invariant-loop l = record {
  count : length l.pools.items ≡ l.counter;
  capacities : All (λ p. p.capacity ≡ l.capacity) l.pools.items;
}
