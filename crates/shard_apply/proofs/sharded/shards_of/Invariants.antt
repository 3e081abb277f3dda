-- The shards of the operators so far, and the operators that are left, are all of them; and pools are left for these.
use Rattle.std.proofs.Common.{◌≡◌, ◌≤◌, ◌+◌, ◌++◌, ℕ, map}
use Rattle.std.specs.Prelude.{All, vec_len, vec_capacity}
use Rattle.std.specs.Vec.Iter.{into_iter_items, into_iter_len}
use Rattle.shard_apply.proofs.sharded.shards_of.Given as goal

abbrev pub invariant-loop-operator : goal.invariant-loop-operator
invariant-loop-operator g l = record {
  operators : map (λ s. s.operator) l.shards.items ++ into_iter_items l.rest ≡ l.fn.operators.items;
  many : vec_len l.pools ≡ into_iter_len l.rest;
  room : vec_len l.shards + into_iter_len l.rest ≤ vec_capacity l.shards;
  left : (n : ℕ) → All (λ p. p.capacity ≡ n) l.fn.pools.items → All (λ p. p.capacity ≡ n) l.pools.items;
  capacities : (n : ℕ) → All (λ p. p.capacity ≡ n) l.fn.pools.items → All (λ s. s.pools.capacity ≡ n) l.shards.items;
}

abbrev pub decreases-loop-operator : goal.decreases-loop-operator
decreases-loop-operator g l = into_iter_len l.rest
