use Rattle.std.proofs.Common.{◌∙◌, ◌++◌, ◌∷◌, [], map, ap, sym, arith, append_assoc}
use Rattle.std.specs.Vec.Iter.{into_iter_items}
use Rattle.shard_apply.proofs.sharded.shards_of.Goals as goal

pub loop-operator-preserved : goal.loop-operator-preserved
loop-operator-preserved g c =
    let inv = c.loop-operator.invariant in
    let step = c.in-Some.ensures.cases in
    let before = map (λ s. s.operator) c.loop-operator.shards.items in
    let e = c.add_shard.ensures in
    record {
      operators = (λ j. e.operators j ++ into_iter_items c.next.new.self)
          ∙ append_assoc before (c.in-Some.operator ∷ []) (into_iter_items c.next.new.self)
          ∙ ap (λ l. before ++ l) (sym step.0) ∙ inv.operators;
      many = omega (arith, e.fewer, inv.many, step.1);
      room = omega (arith, e.more, e.capacity, inv.room, step.1);
      left = λ n h. e.pools n (inv.left n h);
      capacities = λ n h. e.capacities n (inv.left n h) (inv.capacities n h);
    }
