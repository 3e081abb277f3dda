use Rattle.std.proofs.Common.{◌≡◌, ◌+◌, ◌-◌, ◌^◌, ℕ, min, arith}
use Rattle.shard_apply.proofs.Saves.{total_more}
use Rattle.shard_apply.proofs.sharded.Sharded.held.Goals as goal

sum_of_least : (m n k : ℕ) (a b c : ℕ) → m ≡ min a (2 ^ 64 - 1) → n ≡ min b (2 ^ 64 - 1) → k ≡ min (m + n) (2 ^ 64 - 1) → c ≡ a + b → k ≡ min c (2 ^ 64 - 1)
sum_of_least m n k a b c p q r s = omega (arith, p, q, r, s)

pub loop-shard-preserved : goal.loop-shard-preserved
loop-shard-preserved g c =
    let shards = c.deref-shard-items.result.now in
    let i = c.loop-shard.shard-index in
    let more = total_more g.O.Operator.entries (λ s. s.operator) shards i c.shard-item.result c.loop-shard-test.true c.shard-item.is in
    sum_of_least c.loop-shard.held c.held.result c.saturating_add-held.result _ _ _ c.loop-shard.invariant c.held.ensures c.saturating_add-held.ensures more
