use Rattle.std.proofs.Common.{◌≡◌, ◌∙◌, ap, rules}
use Rattle.end_queue.specs.Pending.{put_pending}
use Rattle.lifetime_ops.proofs.Loading.{queue_next, queue_waits}
use Rattle.lifetime_ops.proofs.extending.queue_of.Goals as goal

pub loop-edge-preserved : goal.loop-edge-preserved
loop-edge-preserved c =
    let l = c.loop-edge in
    let e = c.edge-item.result in
    let same : c.in_ok-clone.field-0 ≡ c.edge-item.result = search rules in
    let put = c.in_ok-put.ensures.ok ∙ ap (λ x. put_pending (record { at = e.sync; edge = x }) l.ends) same in
    record {
      edges = queue_next c.args.edges.now l.edge-index e l.ends c.put.new.self c.loop-edge-test.true c.edge-item.is put l.invariant.edges;
      waiting = λ kinds from part. queue_waits kinds from c.args.edges.now l.edge-index e l.ends c.put.new.self c.loop-edge-test.true c.edge-item.is c.requires.ends part put (l.invariant.waiting kinds from part);
    }
