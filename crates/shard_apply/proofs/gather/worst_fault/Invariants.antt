-- The worst fault of the shards before this one.
use Rattle.std.proofs.Common.{◌≡◌, map, take}
use Rattle.shard_apply.specs.Stepping.{worst_of}
use Rattle.shard_apply.proofs.gather.worst_fault.Given as goal

abbrev pub invariant-loop-shard : goal.invariant-loop-shard
invariant-loop-shard g l = l.worst ≡ worst_of (map (λ s. s.answer) (take l.shard-index l.shards))
