use Rattle.std.proofs.Common.{◌≡◌, ◌+◌, ◌++◌, ◌∷◌, [], ◌∙◌, ap, arith}
use Rattle.shard_apply.proofs.Loads.{range_snoc}
use Rattle.shard_apply.proofs.loading.columns_below.Goals as goal

pub loop-column-preserved : goal.loop-column-preserved
loop-column-preserved c =
    let inv = c.loop-column.invariant in
    let column = c.loop-column.column in
    let zero_is : column ≡ 0 + column = omega arith in
    record {
      items = c.push_reserved.ensures.items ∙ (λ j. inv.items j ++ zero_is j ∷ []) ∙ range_snoc 0 column;
      count = c.push_reserved.ensures.len ∙ ap (λ n. n + 1) inv.count;
      room = omega (arith, inv.room, c.push_reserved.ensures.capacity);
    }
