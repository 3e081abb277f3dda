use Rattle.follow_op.proofs.Taken.{queued_next}
use Rattle.follow_op.proofs.sides.held_rows.Goals as goal

pub loop-edge-preserved : goal.loop-edge-preserved
loop-edge-preserved c =
    queued_next c.args.edges.now c.loop-edge.edge-index c.edge-item.result c.in_ok-clone.field-0 c.loop-edge.rows.items c.push_back.new.self.items c.loop-edge-test.true c.edge-item.is c.in_ok-clone.ensures.cases
    c.loop-edge.invariant c.in_ok-push_back.ensures.items
