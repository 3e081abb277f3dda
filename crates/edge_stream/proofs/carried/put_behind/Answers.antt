use Rattle.std.proofs.Common.{◌++◌}
use Rattle.batch.specs.Rows.{edges_of}
use Rattle.edge_stream.proofs.Joining.{batch_order}
use Rattle.edge_stream.proofs.carried.put_behind.Goals as goal

pub put_last-requires-clause-order : goal.put_last-requires-clause-order
put_last-requires-clause-order c =
    batch_order (c.args.list.now.edges ++ c.args.later.edges) c.loop-batch.list.edges c.loop-batch.later.edges (edges_of c.in-Some.batch.rows) c.take_batch.new.self.edges
    c.loop-batch.invariant.edges c.in-Some.ensures.edges c.requires.order
