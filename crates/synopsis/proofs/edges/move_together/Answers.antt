use Rattle.std.proofs.Common.{◌∙◌, ap, arith}
use Rattle.std.proofs.lemmas.List.{take_all}
use Rattle.tw_rows.specs.SameCells.{same_cells}
use Rattle.edge_history.specs.Opens.{bare, ended_of, started_of, ended_rows, started_rows}
use Rattle.key_nodes.specs.Coalesced.{how_often}
use Rattle.sweep_laws.specs.Queues.{queue_after}
use Rattle.synopsis.specs.Holding.{since_of}
use Rattle.synopsis.proofs.EdgesApart.{rows_more}
use Rattle.synopsis.proofs.edges.move_together.Goals as goal

pub loop-edge-preserved : goal.loop-edge-preserved
loop-edge-preserved c =
    let now = c.args.now.now in
    let i = c.loop-edge.edge-index in
    let x = c.edge-item.result in
    record {
      lost = rows_more ended_of now i x c.loop-edge.lost.items c.push_row.new.lost.items c.loop-edge-test.true c.edge-item.is c.in_ok-push_row.ensures.lost c.loop-edge.invariant.lost;
      won = rows_more started_of now i x c.loop-edge.won.items c.push_row.new.won.items c.loop-edge-test.true c.edge-item.is c.in_ok-push_row.ensures.won c.loop-edge.invariant.won;
    }

pub returns-clause-since : goal.returns-clause-since
returns-clause-since c = λ q.
    let now = c.args.now.now in
    let past = c.loop-edge-test.false in
    let lost = c.as_slice.ensures.value ∙ (c.loop-edge.invariant.lost ∙ ap (λ l. bare (ended_rows l)) (take_all c.loop-edge.edge-index now past)) in
    let won = c.as_slice-2.ensures.value ∙ (c.loop-edge.invariant.won ∙ ap (λ l. bare (started_rows l)) (take_all c.loop-edge.edge-index now past)) in
    c.in_ok-tell_instant.ensures.since q
    ∙ (ap (λ l. queue_after c.args.at (λ r. how_often same_cells r l) (λ r. how_often same_cells r c.as_slice-2.result.now) (since_of c.args.held.now) q) lost
    ∙ ap (λ l. queue_after c.args.at (λ r. how_often same_cells r (bare (ended_rows now))) (λ r. how_often same_cells r l) (since_of c.args.held.now) q) won)

pub returns-clause-tells : goal.returns-clause-tells
returns-clause-tells c = λ f low moves is.
    let now = c.args.now.now in
    let past = c.loop-edge-test.false in
    let lost = c.as_slice.ensures.value ∙ (c.loop-edge.invariant.lost ∙ ap (λ l. bare (ended_rows l)) (take_all c.loop-edge.edge-index now past)) in
    let won = c.as_slice-2.ensures.value ∙ (c.loop-edge.invariant.won ∙ ap (λ l. bare (started_rows l)) (take_all c.loop-edge.edge-index now past)) in
    c.in_ok-tell_instant.ensures.tells f low
    (λ r.
    let m = moves r in
    let x = ap (λ l. how_often same_cells r l) lost in
    let y = ap (λ l. how_often same_cells r l) won in
    omega (arith, m, x, y)) is
