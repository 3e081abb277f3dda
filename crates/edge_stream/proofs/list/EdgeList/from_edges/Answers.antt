use Rattle.std.proofs.Common.{◌≤◌, ◌++◌, ◌∷◌, [], ◌∙◌, map, ap, sym, arith}
use Rattle.std.proofs.lemmas.List.{take_more}
use Rattle.tw_rows.specs.Kinds.{cell_kind_of}
use Rattle.edge_history.proofs.Keeping.{KeepsOrder-next}
use Rattle.edge_stream.proofs.Filling.{appended-kinds, appended-capacity, room_taken-capacity, filled_next, taken_next}
use Rattle.edge_stream.proofs.list.EdgeList.from_edges.Goals as goal

pub append-requires-clause-order : goal.append-requires-clause-order
append-requires-clause-order c =
    KeepsOrder-next c.args.edges.now c.loop-edge.list.edges c.loop-edge.edge-index c.edge-item.result c.loop-edge-test.true c.edge-item.is c.loop-edge.invariant.edges c.requires.order

pub loop-edge-preserved : goal.loop-edge-preserved
loop-edge-preserved c =
    let l = c.loop-edge.list in
    let e = c.edge-item.result in
    let i = c.loop-edge.invariant in
    let ok = c.in_ok-append.ensures.ok in
    let room : 1 ≤ l.capacity = omega (arith, c.requires.room, i.capacity) in
    record {
      edges = ap (λ v. v.edges) ok ∙ sym (take_more c.args.edges.now c.loop-edge.edge-index e c.loop-edge-test.true ∙ (λ j. sym i.edges j ++ sym c.edge-item.is j ∷ []));
      kinds = ap (λ v. v.kinds) ok ∙ appended-kinds l e ∙ i.kinds;
      capacity = ap (λ v. v.capacity) ok ∙ appended-capacity l e ∙ i.capacity;
      room = ap (λ s. s.capacity) c.in_ok-append.ensures.pools ∙ room_taken-capacity l c.loop-edge.pools ∙ i.room;
      filled = filled_next l c.append.new.self e room ok i.filled;
      taken = taken_next l c.append.new.self e c.args.pools.now c.loop-edge.pools c.append.new.pools _ (ap (map cell_kind_of) i.kinds) ok i.taken c.in_ok-append.ensures.pools;
    }
