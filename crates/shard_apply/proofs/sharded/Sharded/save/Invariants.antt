-- The entries of the operators before this one are saved.
use Rattle.std.proofs.Common.{◌≡◌, ◌≤◌, ◌<◌, ℕ, List, map, take, length, get_or}
use Rattle.std.specs.Prelude.{vec_len, vec_capacity}
use Rattle.tw_rows.specs.Bag.{total}
use Rattle.edge_stream.specs.declared.saved.SavedEntry.{SavedEntry}
use Rattle.edge_stream.specs.Standing.{Implies}
use Rattle.shard_apply.specs.declared.shard.Shard.{Shard}
use Rattle.shard_apply.proofs.sharded.Sharded.save.Given as goal

abbrev pub invariant-loop-shard : goal.invariant-loop-shard
invariant-loop-shard g l = record {
  count : vec_len l.saved ≡ l.shard-index;
  room : length l.shard-items ≤ vec_capacity l.saved;
  few : total length l.saved.items ≤ total g.O.Operator.entries (map (λ s. s.operator) (take l.shard-index l.shard-items));
  sound : (s : ℕ) (d : Shard g.row.O.Denot) (e : List SavedEntry) → s < l.shard-index →
      g.O.Operator.sound (get_or l.shard-items s d).operator (get_or l.saved.items s e)
      (g.O.Operator.standing (get_or l.shard-items s d).operator).left_closed (g.O.Operator.standing (get_or l.shard-items s d).operator).right_closed;
  resumes : (s : ℕ) (d : Shard g.row.O.Denot) (e : List SavedEntry) → s < l.shard-index →
      Implies (g.O.Operator.keeps (get_or l.shard-items s d).operator) (g.O.Operator.resumes (get_or l.shard-items s d).operator (get_or l.saved.items s e)
      (g.O.Operator.standing (get_or l.shard-items s d).operator).left_closed (g.O.Operator.standing (get_or l.shard-items s d).operator).right_closed);
}
