-- The answers of the shards before this one are taken, and the others are as they were.
use Rattle.std.proofs.Common.{◌≡◌, ◌≤◌, ℕ, map, take, get_or, Ok, length}
use Rattle.std.specs.Prelude.{vec_len, vec_capacity}
use Rattle.shard_apply.specs.declared.shard.Shard.{Shard}
use Rattle.shard_apply.proofs.gather.take_answers.Given as goal

abbrev pub invariant-loop-i : goal.invariant-loop-i
invariant-loop-i g l = record {
  lists : map Ok l.lists.items ≡ map (λ s. s.answer) (take l.i l.fn.shards);
  rest : (k : ℕ) (d : Shard g.row.O.Denot) → l.i ≤ k → get_or l.shards k d ≡ get_or l.fn.shards k d;
  count : vec_len l.lists ≡ l.i;
  room : length l.fn.shards ≤ vec_capacity l.lists;
  operators : map (λ s. s.operator) l.shards ≡ map (λ s. s.operator) l.fn.shards;
  capacities : map (λ s. s.pools.capacity) l.shards ≡ map (λ s. s.pools.capacity) l.fn.shards;
}
