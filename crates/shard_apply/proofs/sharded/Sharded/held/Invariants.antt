-- What the operators before this one keep is counted.
use Rattle.std.proofs.Common.{◌≡◌, ◌-◌, ◌^◌, min, map, take}
use Rattle.tw_rows.specs.Bag.{total}
use Rattle.shard_apply.proofs.sharded.Sharded.held.Given as goal

abbrev pub invariant-loop-shard : goal.invariant-loop-shard
invariant-loop-shard g l = l.held ≡ min (total g.O.Operator.entries (map (λ s. s.operator) (take l.shard-index l.shard-items))) (2 ^ 64 - 1)
