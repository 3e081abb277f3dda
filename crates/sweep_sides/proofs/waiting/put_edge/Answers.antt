use Rattle.std.proofs.Common.{refl}
use Rattle.sweep_sides.proofs.Queued.{put_queued, put_timed}
use Rattle.sweep_sides.proofs.waiting.put_edge.Goals as goal

pub returns : goal.returns
returns c = record {
  put = put_queued c.args.queue.now c.put.new.self c.args.edge.sync c.args.edge c.in_ok-put.ensures.ok;
  timed = put_timed c.args.queue.now c.put.new.self c.args.edge.sync c.args.edge c.in_ok-put.ensures.ok refl;
}
