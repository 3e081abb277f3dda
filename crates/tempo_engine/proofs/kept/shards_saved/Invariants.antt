-- The parts before this shard's were taken.
use Rattle.std.proofs.Common.{◌≡◌, map, take, drop}
use Rattle.std.specs.Vec.Iter.{into_iter_items}
use Rattle.tempo_engine.proofs.kept.shards_saved.Given as goal

abbrev pub invariant-loop-shard : goal.invariant-loop-shard
invariant-loop-shard l = record {
  rest : into_iter_items l.parts ≡ drop l._shard (into_iter_items l.fn.parts);
  saved : l.saved.items ≡ map (λ p. p.saved) (take l._shard (into_iter_items l.fn.parts));
}
