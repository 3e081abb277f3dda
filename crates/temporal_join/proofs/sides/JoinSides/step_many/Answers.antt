use Rattle.temporal_join.proofs.Steps.{many_stepped, columns_then}
use Rattle.temporal_join.proofs.sides.JoinSides.step_many.Goals as goal

pub returns-clause-stepped : goal.returns-clause-stepped
returns-clause-stepped c = λ from tl tr.
    many_stepped c.args.self.now c.settle_all.new.self c.finish_with.new.self from c.args.to c.args.left.now.edges c.args.right.now.edges c.args.answer.now.items c.finish_with.new.answer.items
    tl tr c.in_ok-settle_all.ensures.settled c.in_ok-finish_with.ensures.finished

pub returns-clause-columns : goal.returns-clause-columns
returns-clause-columns c = columns_then c.args.self.now c.settle_all.new.self c.finish_with.new.self c.in_ok-settle_all.ensures.settled.columns c.in_ok-finish_with.ensures.finished.columns
