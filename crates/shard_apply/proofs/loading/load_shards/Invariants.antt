-- The shards before this one have taken up their entries, and the others are as they were.
use Rattle.std.proofs.Common.{◌≡◌, ◌≤◌, ◌<◌, ℕ, List, map, length, get_or}
use Rattle.std.specs.List.{range_with_len}
use Rattle.edge_stream.specs.declared.saved.SavedEntry.{SavedEntry}
use Rattle.edge_stream.specs.Standing.{IsLike}
use Rattle.shard_apply.specs.declared.shard.Shard.{Shard}
use Rattle.shard_apply.specs.Saving.{AreRowsOf, HasLoaded}
use Rattle.shard_apply.proofs.loading.load_shards.Given as goal

abbrev pub invariant-loop-i : goal.invariant-loop-i
invariant-loop-i g l = record {
  loaded : (k : ℕ) (d : Shard g.row.O.Denot) (e : List SavedEntry) → k < l.i →
      HasLoaded (g.O.Operator.resumes (get_or l.fn.shards k d).operator (get_or l.saved k e) l.left_to l.right_to) (g.O.Operator.keeps (get_or l.shards k d).operator)
      (g.O.Operator.sound (get_or l.fn.shards k d).operator (get_or l.saved k e) l.left_to l.right_to)
      (AreRowsOf g.O.Operator.row_of_part (length l.fn.shards) l.left_key l.right_key (range_with_len 0 (length l.left_key)) k (get_or l.saved k e))
      (g.O.Operator.standing (get_or l.shards k d).operator) l.left_to l.right_to;
  rest : (k : ℕ) (d : Shard g.row.O.Denot) → l.i ≤ k → get_or l.shards k d ≡ get_or l.fn.shards k d;
  like : (k : ℕ) (d : Shard g.row.O.Denot) → k < length l.fn.shards →
      IsLike (g.O.Operator.standing (get_or l.fn.shards k d).operator) (g.O.Operator.standing (get_or l.shards k d).operator);
  capacities : map (λ s. s.pools.capacity) l.shards ≡ map (λ s. s.pools.capacity) l.fn.shards;
}
