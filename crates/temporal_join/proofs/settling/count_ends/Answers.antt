use Rattle.std.proofs.Common.{arith}
use Rattle.temporal_join.proofs.Sided.{waits_more}
use Rattle.temporal_join.proofs.settling.count_ends.Goals as goal

pub loop-life-preserved : goal.loop-life-preserved
loop-life-preserved c =
    let i = c.loop-life.life-index in
    let a = waits_more c.args.lives.now i c.life-item.result c.loop-life-test.true c.life-item.is in
    let b = c.count_end-count.ensures.count in
    let d = c.count_end-count.ensures.few in
    let e = c.loop-life.invariant.is in
    let f = c.loop-life.invariant.few in
    record { is = omega (arith, a, b, e); few = omega (arith, d, f) }
