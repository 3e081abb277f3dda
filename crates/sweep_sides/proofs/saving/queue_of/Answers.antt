use Rattle.sweep_sides.proofs.KeptSides.{edge_more}
use Rattle.sweep_sides.proofs.saving.queue_of.Goals as goal

pub loop-edge-preserved : goal.loop-edge-preserved
loop-edge-preserved c =
    let e = c.edge-item.result in
    record {
      edges = edge_more c.args.edges.now c.loop-edge.edge-index e c.in_ok-clone.field-0 c.loop-edge.queue c.put_edge.new.queue c.loop-edge-test.true c.edge-item.is c.in_ok-clone.ensures.cases c.in_ok-put_edge.ensures.put c.loop-edge.invariant.edges;
      timed = c.in_ok-put_edge.ensures.timed c.loop-edge.invariant.timed;
    }
