use Rattle.std.proofs.Common.{arith, ◌-◌, ◌^◌, min}
use Rattle.query_plan.specs.Choices.{choice_count}
use Rattle.query_plan.proofs.Found.{count_more}
use Rattle.query_plan.proofs.choosing.choice_count.Goals as goal

pub loop-width-preserved : goal.loop-width-preserved
loop-width-preserved c = record {
  fits = omega (arith, c.saturating_mul-count.ensures);
  counts = count_more c.loop-width.count c.loop-width.width-index c.saturating_mul-count.result (2 ^ 64 - 1)
      (min (choice_count c.args.widths.now) (2 ^ 64 - 1)) c.args.widths.now c.loop-width-test.true c.saturating_mul-count.ensures
      c.loop-width.invariant.counts;
}
