use Rattle.std.proofs.Common.{◌∙◌}
use Rattle.dataflow.proofs.Opening.{held_next}
use Rattle.dataflow.proofs.dataflow.held_by.Goals as goal

pub loop-i-preserved : goal.loop-i-preserved
loop-i-preserved c =
    c.in_ok-push.ensures.items ∙ held_next c.args.stages.now c.loop-i.i c.held.result c.index-stages-i.result c.loop-i.held.items c.loop-i-test.true c.index-stages-i.is c.held.ensures.exact c.loop-i.invariant
