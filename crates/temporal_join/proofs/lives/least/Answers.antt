use Rattle.std.proofs.Common.{arith, refl}
use Rattle.temporal_join.proofs.Living.{least_below, least_above}
use Rattle.temporal_join.proofs.lives.least.Goals as goal

pub loop-life-init : goal.loop-life-init
loop-life-init c = record { below = refl; above = λ t low h. (let e = c.bounds-least.ensures.infinity in omega (arith, e, low)) }

pub loop-life-preserved : goal.loop-life-preserved
loop-life-preserved c =
    let i = c.loop-life.life-index in
    let x = c.life-item.result in
    record {
      below = least_below c.args.lives.now i x c.loop-life.least c.lesser-least.result c.loop-life-test.true c.life-item.is c.lesser-least.ensures c.loop-life.invariant.below;
      above = λ t low. least_above c.args.lives.now i x t c.loop-life.least c.lesser-least.result c.loop-life-test.true c.life-item.is c.lesser-least.ensures (c.loop-life.invariant.above t low);
    }
