use Rattle.std.proofs.Common.{◌++◌, ◌∷◌, [], ◌∙◌, length, ap, sym, subst, rules, arith, append_assoc}
use Rattle.std.specs.Prelude.{IsSome}
use Rattle.edge_history.specs.Order.{KeepsOrder}
use Rattle.edge_stream.specs.Listing.{cells_of}
use Rattle.edge_stream.proofs.Filling.{appended-kinds, appended-capacity, room_taken-capacity}
use Rattle.edge_stream.proofs.Merging.{with_head, some_edge, first_keeps}
use Rattle.edge_stream.proofs.Pools.{part-capacity, part-limit, room_taken-limit}
use Rattle.edge_stream.proofs.carried.copy_behind.Goals as goal

pub copy_next-requires-clause-order : goal.copy_next-requires-clause-order
copy_next-requires-clause-order c e rest is =
    let out = c.loop-cursor.list.edges in
    first_keeps out e rest (subst KeepsOrder (sym (ap (λ l. out ++ l) (sym is) ∙ c.loop-cursor.invariant.edges)) c.requires.order)

pub loop-cursor-smaller : goal.loop-cursor-smaller
loop-cursor-smaller c =
    let some : IsSome c.rank.result = search rules in
    with_head c.loop-cursor.cursor.edges (some_edge c.rank.result c.loop-cursor.cursor.edges some c.rank.ensures.none)
    (λ e rest is. omega (arith, ap length (c.in_ok-copy_next.ensures.rest e rest is), ap length is))

pub loop-cursor-preserved : goal.loop-cursor-preserved
loop-cursor-preserved c =
    let l = c.loop-cursor.list in
    let i = c.loop-cursor.invariant in
    let some : IsSome c.rank.result = search rules in
    with_head c.loop-cursor.cursor.edges (some_edge c.rank.result c.loop-cursor.cursor.edges some c.rank.ensures.none)
    (λ e rest is.
    let ok = c.in_ok-copy_next.ensures.ok e rest is in
    let pools = c.in_ok-copy_next.ensures.pools e rest is in
    record {
      edges = (λ j. (ok j).edges ++ c.in_ok-copy_next.ensures.rest e rest is j) ∙ append_assoc l.edges (e ∷ []) rest ∙ ap (λ es. l.edges ++ es) (sym is) ∙ i.edges;
      kinds = ap (λ v. v.kinds) ok ∙ appended-kinds l e ∙ i.kinds;
      capacity = ap (λ v. v.capacity) ok ∙ appended-capacity l e ∙ i.capacity;
      cells = c.copy_next.ensures.kinds ∙ i.cells;
      room = ap (λ s. s.capacity) pools ∙ room_taken-capacity l c.loop-cursor.pools ∙ i.room;
      limit = ap (λ s. s.limit) pools ∙ room_taken-limit l c.loop-cursor.pools ∙ i.limit;
    })

pub returns-in_err-copy_next-clause-pools : goal.returns-in_err-copy_next-clause-pools
returns-in_err-copy_next-clause-pools c =
    part-capacity c.loop-cursor.pools c.copy_next.new.pools (cells_of c.loop-cursor.list) c.in_err-copy_next.ensures.err_pools ∙ c.loop-cursor.invariant.room

pub returns-in_err-copy_next-clause-limit : goal.returns-in_err-copy_next-clause-limit
returns-in_err-copy_next-clause-limit c =
    part-limit c.loop-cursor.pools c.copy_next.new.pools (cells_of c.loop-cursor.list) c.in_err-copy_next.ensures.err_pools ∙ c.loop-cursor.invariant.limit
