use Rattle.std.proofs.Common.{arith, ◌≤◌}
use Rattle.std.proofs.lemmas.Bool.Decides.{nat_tests}
use Rattle.sweep_sides.proofs.TakenIn.{rise_on}
use Rattle.sweep_sides.proofs.taking.rise.Goals as goal

pub loop-edge-preserved : goal.loop-edge-preserved
loop-edge-preserved c = λ up.
    let x = c.edge-item.result in
    let le : c.loop-edge.last ≤ x.sync = grind (arith, nat_tests) in
    c.loop-edge.invariant (rise_on c.loop-edge.last c.loop-edge.edge-index c.args.edges.now x c.loop-edge-test.true c.edge-item.is le up)
