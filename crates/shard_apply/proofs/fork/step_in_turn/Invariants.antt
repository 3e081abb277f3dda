-- The shards before this one have taken their step, and the others are as they were.
use Rattle.std.proofs.Common.{◌≡◌, ◌≤◌, ◌<◌, ℕ, get_or}
use Rattle.shard_apply.specs.declared.shard.Shard.{Shard}
use Rattle.shard_apply.specs.Shards.{TakesNews, KeepRooms}
use Rattle.shard_apply.proofs.fork.step_in_turn.Given as goal

abbrev pub invariant-loop-i : goal.invariant-loop-i
invariant-loop-i g l = record {
  stepped : (k : ℕ) (d : Shard g.row.O.Denot) → k < l.i →
      TakesNews g.O.Operator.standing g.O.Operator.keeps l.cut l.news k (get_or l.fn.shards k d).operator (get_or l.shards k d).operator (get_or l.shards k d).answer;
  rest : (k : ℕ) (d : Shard g.row.O.Denot) → l.i ≤ k → get_or l.shards k d ≡ get_or l.fn.shards k d;
  pools : KeepRooms l.fn.shards l.shards;
}
