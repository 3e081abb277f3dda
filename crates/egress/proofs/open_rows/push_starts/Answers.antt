use Rattle.egress.proofs.Ending.{replicated_more}
use Rattle.egress.proofs.open_rows.push_starts.Goals as goal

pub loop-preserved : goal.loop-preserved
loop-preserved c = replicated_more c.args.kinds.now _ c.args.lines.now.items _ _ c.loop.counter c.loop.invariant c.in_ok-push_start.ensures
