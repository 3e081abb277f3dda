use Rattle.std.proofs.Common.{rules}
use Rattle.edge_history.specs.Order.{IsReal}
use Rattle.edge_history.proofs.Keeping.{Goes-step}
use Rattle.edge_history.proofs.order.keeps_order.Goals as goal

pub loop-edge-preserved : goal.loop-edge-preserved
loop-edge-preserved c =
    let real : IsReal c.edge-item.result = search rules in
    Goes-step c.args.edges.now c.loop-edge.edge-index c.loop-edge.least c.rank_of-rank.result c.edge-item.result c.loop-edge-test.true c.edge-item.is c.rank_of-rank.ensures c.if-rank-least.false real c.loop-edge.invariant
