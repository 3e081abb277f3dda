use Rattle.std.proofs.Common.{◌≡◌, ◌≤◌, map, length, ap, sym, subst, arith}
use Rattle.std.specs.Prelude.{All}
use Rattle.std.proofs.lemmas.List.{length-map}
use Rattle.std.proofs.lemmas.List.Elements.{All-map}
use Rattle.shard_apply.specs.Whole.{first_of, AreInStep}
use Rattle.shard_apply.proofs.sharded.Sharded.new.Goals as goal

pub invariant_of-result : goal.invariant_of-result
invariant_of-result g c =
    let standing = g.O.Operator.standing in
    let shards = c.in_ok-shards_of.field-0.items in
    let ops = c.in_ok-shards_of.ensures.operators in
    let room = (first_of (map standing c.args.shards.items)).batch_rows in
    record {
      some = subst (λ os. 1 ≤ length (map standing os)) (sym ops) c.requires.in_step.some;
      few = omega (arith, c.requires.few, ap length ops, length-map (map (λ s. s.operator) shards) standing);
      in_step = λ works.
          subst (λ os. AreInStep (map standing os) c.in_ok-from_slice.field-0.items c.in_ok-from_slice-2.field-0.items) (sym ops)
          (subst (λ key. AreInStep (map standing c.args.shards.items) key c.in_ok-from_slice-2.field-0.items) (sym c.in_ok-from_slice.ensures.items)
          (subst (λ key. AreInStep (map standing c.args.shards.items) c.args.left_key.now key) (sym c.in_ok-from_slice-2.ensures.items) c.requires.in_step));
      rooms = λ works.
          subst (λ os. All (λ capacity. capacity ≡ (first_of (map standing os)).batch_rows) (map (λ s. s.pools.capacity) shards)) (sym ops)
          (All-map (λ capacity. capacity ≡ room) (λ s. s.pools.capacity) shards (c.in_ok-shards_of.ensures.capacities room c.requires.capacities));
    }
