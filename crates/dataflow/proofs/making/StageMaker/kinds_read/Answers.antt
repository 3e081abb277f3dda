use Rattle.dataflow.proofs.Starting.{narrow_read}
use Rattle.dataflow.proofs.making.StageMaker.kinds_read.Goals as goal

pub returns-clause-width : goal.returns-clause-width
returns-clause-width c = narrow_read c.args.self.now.plan.now c.nodes-nodes.ensures.kept c.args.self.now.node c.args.self.now.inside c.in_ok-kinds.kinds.items c.in_ok-kinds.ensures
