-- With the parts of the shards that are left they are all.
use Rattle.std.proofs.Common.{◌≡◌, ◌+◌, ◌++◌, length}
use Rattle.std.specs.Vec.Iter.{into_iter_items, into_iter_len}
use Rattle.tempo_engine.specs.Kept.{shard_row}
use Rattle.tempo_engine.proofs.kept.push_node.Given as goal

abbrev pub invariant-loop-saved : goal.invariant-loop-saved
invariant-loop-saved l = record {
  row : l.row.items ++ shard_row l.node l.shard (into_iter_items l.rest) ≡ l.fn.row.items ++ shard_row l.node 0 l.fn.shards.items;
  few : l.shard + into_iter_len l.rest ≡ length l.fn.shards.items;
}

abbrev pub decreases-loop-saved : goal.decreases-loop-saved
decreases-loop-saved l = into_iter_len l.rest
