use Rattle.std.proofs.Common.{◌≤◌}
use Rattle.tw_rows.specs.Instant.{inf}
use Rattle.checkpoint.proofs.Valued.{all_more, all_of}
use Rattle.checkpoint.proofs.values.see_times.Goals as goal

pub loop-time-preserved : goal.loop-time-preserved
loop-time-preserved c = all_more (λ t. t ≤ inf) c.args.times.now c.loop-time.time-index c.time-item.result c.loop-time-test.true c.time-item.is c.see_time.ensures c.loop-time.invariant

pub returns : goal.returns
returns c = all_of (λ t. t ≤ inf) c.args.times.now c.loop-time.time-index c.loop-time-test.false c.loop-time.invariant
