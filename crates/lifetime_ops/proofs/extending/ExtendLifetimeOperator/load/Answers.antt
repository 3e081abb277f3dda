use Rattle.edge_stream.specs.Entries.{part_of}
use Rattle.lifetime_ops.specs.Waiting.{edges_of_pending}
use Rattle.lifetime_ops.proofs.Loading.{extended_same}
use Rattle.lifetime_ops.proofs.extending.ExtendLifetimeOperator.load.Goals as goal

pub returns-clause-resumed : goal.returns-clause-resumed
returns-clause-resumed c = λ texts hl hr out r.
    extended_same c.args.self.now.by texts c.args.left_to c.args.right_to (part_of 0 c.args.saved.now) c.in_ok-carried.carried.edges (part_of 1 c.args.saved.now)
    (edges_of_pending c.in_ok-carried.ends) hl hr out c.in_ok-carried.ensures.carried c.in_ok-carried.ensures.ends r.keeps
