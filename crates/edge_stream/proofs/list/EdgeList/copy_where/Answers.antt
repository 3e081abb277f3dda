use Rattle.std.proofs.Common.{◌≡◌, ◌≤◌, ◌++◌, ◌∷◌, [], ◌∙◌, true, false, map, length, ap, sym, subst, arith, append_assoc}
use Rattle.std.specs.Prelude.{Bool, List, filter, nat_eq, Option, Some, None, IsNone, ◌↔◌}
use Rattle.std.proofs.lemmas.Bool.{eq-eqb}
use Rattle.std.proofs.lemmas.Bool.Decides.{nat_tests}
use Rattle.tw_rows.specs.declared.edge.Edge.{Edge}
use Rattle.tw_rows.specs.Kinds.{cell_kind_of}
use Rattle.edge_history.specs.Order.{KeepsOrder}
use Rattle.edge_stream.specs.Shards.{shard_by}
use Rattle.edge_stream.proofs.Filling.{appended-kinds, appended-capacity, room_taken-capacity, filled_next, taken_next}
use Rattle.edge_stream.proofs.Merging.{with_head, first_keeps}
use Rattle.edge_stream.proofs.ShardCuts.{KeepsOrder-filter, picked, passed}
use Rattle.edge_stream.proofs.list.EdgeList.copy_where.Goals as goal

-- an edge is left where a shard is told
told : {X : Type 0} (o : Option X) (x : X) (es : List Edge) → o ≡ Some x → (IsNone o ↔ (es ≡ [])) → es ≡ [] → ⊥
told None x es is none e = absurd (cc)
told (Some y) x es is none e = let wrong : true ≡ false = none.1 e in absurd (cc)

pub copy_next-requires-clause-order : goal.copy_next-requires-clause-order
copy_next-requires-clause-order c e rest is =
    let p : Edge → Bool = λ x. nat_eq (shard_by c.args.count c.args.key.now x.cells) c.args.number in
    let out = c.loop-shard.part.edges in
    let passes : p e ≡ true = eq-eqb _ _ (sym (c.in-Some.ensures.shard e rest is) ∙ c.if-shard-number.true) in
    let order = KeepsOrder-filter p c.args.self.now.edges c.cursor-cursor.ensures.order in
    first_keeps out e (filter p rest) (subst KeepsOrder (sym (picked p out c.loop-shard.cursor.edges c.args.self.now.edges e rest is c.loop-shard.invariant.edges passes)) order)

pub loop-shard-smaller-in-Continue-branch-2 : goal.loop-shard-smaller-in-Continue-branch-2
loop-shard-smaller-in-Continue-branch-2 c =
    with_head c.loop-shard.cursor.edges (told c.shard.result c.in-Some.shard c.loop-shard.cursor.edges c.in-Some.is c.shard.ensures.none)
    (λ e rest is. omega (arith, ap length (c.in_ok-copy_next.ensures.rest e rest is), ap length is))

pub loop-shard-preserved-in-Continue-branch-2 : goal.loop-shard-preserved-in-Continue-branch-2
loop-shard-preserved-in-Continue-branch-2 c =
    let p : Edge → Bool = λ x. nat_eq (shard_by c.args.count c.args.key.now x.cells) c.args.number in
    let l = c.loop-shard.part in
    let i = c.loop-shard.invariant in
    let room : 1 ≤ l.capacity = omega (arith, c.self.invariant.room, ap (λ v. v.capacity) c.self.view_is, i.capacity) in
    with_head c.loop-shard.cursor.edges (told c.shard.result c.in-Some.shard c.loop-shard.cursor.edges c.in-Some.is c.shard.ensures.none)
    (λ e rest is.
    let passes : p e ≡ true = eq-eqb _ _ (sym (c.in-Some.ensures.shard e rest is) ∙ c.if-shard-number.true) in
    let ok = c.in_ok-copy_next.ensures.ok e rest is in
    let pools = c.in_ok-copy_next.ensures.pools e rest is in
    record {
      edges = (λ j. (ok j).edges ++ filter p (c.in_ok-copy_next.ensures.rest e rest is j)) ∙ append_assoc l.edges (e ∷ []) (filter p rest)
          ∙ picked p l.edges c.loop-shard.cursor.edges c.args.self.now.edges e rest is i.edges passes;
      kinds = ap (λ v. v.kinds) ok ∙ appended-kinds l e ∙ i.kinds;
      capacity = ap (λ v. v.capacity) ok ∙ appended-capacity l e ∙ i.capacity;
      cells = c.copy_next.ensures.kinds ∙ i.cells;
      room = ap (λ s. s.capacity) pools ∙ room_taken-capacity l c.loop-shard.pools ∙ i.room;
      filled = filled_next l c.copy_next.new.to e room ok i.filled;
      taken = taken_next l c.copy_next.new.to e c.args.pools.now c.loop-shard.pools c.copy_next.new.pools _ (ap (map cell_kind_of) i.kinds) ok i.taken pools;
    })

pub loop-shard-smaller : goal.loop-shard-smaller
loop-shard-smaller c =
    with_head c.loop-shard.cursor.edges (told c.shard.result c.in-Some.shard c.loop-shard.cursor.edges c.in-Some.is c.shard.ensures.none)
    (λ e rest is. omega (arith, ap length (c.advance.ensures.edges e rest is), ap length is))

pub loop-shard-preserved : goal.loop-shard-preserved
loop-shard-preserved c =
    let p : Edge → Bool = λ x. nat_eq (shard_by c.args.count c.args.key.now x.cells) c.args.number in
    let l = c.loop-shard.part in
    let i = c.loop-shard.invariant in
    with_head c.loop-shard.cursor.edges (told c.shard.result c.in-Some.shard c.loop-shard.cursor.edges c.in-Some.is c.shard.ensures.none)
    (λ e rest is.
    let number = c.in-Some.ensures.shard e rest is in
    let fails : p e ≡ false = grind (arith, nat_tests, number, c.if-shard-number.false) in
    record {
      edges = ap (λ es. l.edges ++ filter p es) (c.advance.ensures.edges e rest is) ∙ passed p l.edges c.loop-shard.cursor.edges c.args.self.now.edges e rest is i.edges fails;
      kinds = i.kinds;
      capacity = i.capacity;
      cells = c.advance.ensures.kinds ∙ i.cells;
      room = i.room;
      filled = i.filled;
      taken = i.taken;
    })
