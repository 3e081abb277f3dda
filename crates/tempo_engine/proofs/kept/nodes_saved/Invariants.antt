-- The parts of the nodes before this one were taken.
use Rattle.std.proofs.Common.{◌≡◌, map, take, drop}
use Rattle.std.specs.Vec.Iter.{into_iter_items}
use Rattle.tw_rows.specs.Bag.{total}
use Rattle.frozen_state.specs.Forms.{shards_of}
use Rattle.tempo_engine.specs.Kept.{shared_out}
use Rattle.tempo_engine.proofs.kept.nodes_saved.Given as goal

abbrev pub invariant-loop-node : goal.invariant-loop-node
invariant-loop-node l = record {
  same : l.node-items ≡ l.plan.nodes;
  rest : into_iter_items l.parts ≡ drop (total (λ n. n) (map (shards_of l.workers) (take l.node-index l.node-items))) (into_iter_items l.fn.parts);
  saved : map (λ shards. shards.items) l.saved.items ≡ shared_out (map (shards_of l.workers) (take l.node-index l.node-items)) (into_iter_items l.fn.parts);
}
