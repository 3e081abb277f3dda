-- With the parts of the nodes that are left they are all.
use Rattle.std.proofs.Common.{◌≡◌, ◌+◌, ◌++◌, length, map}
use Rattle.std.specs.Vec.Iter.{into_iter_items, into_iter_len}
use Rattle.tempo_engine.specs.Kept.{node_row}
use Rattle.tempo_engine.proofs.kept.push_nodes.Given as goal

abbrev pub invariant-loop-shards : goal.invariant-loop-shards
invariant-loop-shards l = record {
  row : l.row.items ++ node_row l.node (map (λ shards. shards.items) (into_iter_items l.rest)) ≡ l.fn.row.items ++ node_row 0 (map (λ shards. shards.items) l.fn.nodes.items);
  few : l.node + into_iter_len l.rest ≡ length l.fn.nodes.items;
}

abbrev pub decreases-loop-shards : goal.decreases-loop-shards
decreases-loop-shards l = into_iter_len l.rest
