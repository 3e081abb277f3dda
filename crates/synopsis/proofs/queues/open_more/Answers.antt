-- What is answered by hand of the proof of queues::open_more.
use Rattle.synopsis.proofs.Ending.{times_more}
use Rattle.synopsis.proofs.queues.open_more.Goals as goal

pub loop-preserved : goal.loop-preserved
loop-preserved c = times_more _ _ c.args.since.now.items c.loop.counter _ c.in_ok-push_back.ensures.items c.loop.invariant
