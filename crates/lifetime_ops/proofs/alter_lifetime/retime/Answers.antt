use Rattle.batch.specs.Rows.{edges_of}
use Rattle.lifetime_ops.proofs.Answering.{batch_order}
use Rattle.lifetime_ops.proofs.alter_lifetime.retime.Goals as goal

pub put_last-requires-clause-order : goal.put_last-requires-clause-order
put_last-requires-clause-order c =
    batch_order c.args.change.now c.args.due.edges c.loop-batch.answer.edges c.loop-batch.due.edges (edges_of c.in-Some.batch.rows) c.take_batch.new.self.edges
    (edges_of c.apply.new.batch.rows) c.cursor.ensures.order c.loop-batch.invariant.edges c.in-Some.ensures.edges c.in_ok-apply.ensures.edges
