use Rattle.std.proofs.Common.{◌≤◌, ◌++◌, ◌∷◌, [], ◌∙◌, map, length, ap, sym, subst, rules, arith, append_assoc}
use Rattle.std.specs.Prelude.{IsSome}
use Rattle.tw_rows.specs.Kinds.{cell_kind_of}
use Rattle.edge_history.specs.Order.{KeepsOrder}
use Rattle.edge_stream.proofs.Filling.{appended-kinds, appended-capacity, room_taken-capacity, filled_next, taken_next}
use Rattle.edge_stream.proofs.Merging.{with_head, some_edge, first_keeps}
use Rattle.edge_stream.proofs.list.EdgeList.copy.Goals as goal

pub copy_next-requires-clause-order : goal.copy_next-requires-clause-order
copy_next-requires-clause-order c e rest is =
    let out = c.loop-cursor.copy.edges in
    first_keeps out e rest (subst KeepsOrder (sym (ap (λ l. out ++ l) (sym is) ∙ c.loop-cursor.invariant.edges)) c.cursor-cursor.ensures.order)

pub loop-cursor-smaller : goal.loop-cursor-smaller
loop-cursor-smaller c =
    let some : IsSome c.rank.result = search rules in
    with_head c.loop-cursor.cursor.edges (some_edge c.rank.result c.loop-cursor.cursor.edges some c.rank.ensures.none)
    (λ e rest is. omega (arith, ap length (c.in_ok-copy_next.ensures.rest e rest is), ap length is))

pub loop-cursor-preserved : goal.loop-cursor-preserved
loop-cursor-preserved c =
    let l = c.loop-cursor.copy in
    let i = c.loop-cursor.invariant in
    let some : IsSome c.rank.result = search rules in
    let room : 1 ≤ l.capacity = omega (arith, c.self.invariant.room, ap (λ v. v.capacity) c.self.view_is, i.capacity) in
    with_head c.loop-cursor.cursor.edges (some_edge c.rank.result c.loop-cursor.cursor.edges some c.rank.ensures.none)
    (λ e rest is.
    let ok = c.in_ok-copy_next.ensures.ok e rest is in
    let pools = c.in_ok-copy_next.ensures.pools e rest is in
    record {
      edges = (λ j. (ok j).edges ++ c.in_ok-copy_next.ensures.rest e rest is j) ∙ append_assoc l.edges (e ∷ []) rest ∙ ap (λ es. l.edges ++ es) (sym is) ∙ i.edges;
      kinds = ap (λ v. v.kinds) ok ∙ appended-kinds l e ∙ i.kinds;
      capacity = ap (λ v. v.capacity) ok ∙ appended-capacity l e ∙ i.capacity;
      cells = c.copy_next.ensures.kinds ∙ i.cells;
      room = ap (λ s. s.capacity) pools ∙ room_taken-capacity l c.loop-cursor.pools ∙ i.room;
      filled = filled_next l c.copy_next.new.to e room ok i.filled;
      taken = taken_next l c.copy_next.new.to e c.args.pools.now c.loop-cursor.pools c.copy_next.new.pools _ (ap (map cell_kind_of) i.kinds) ok i.taken pools;
    })
