use Rattle.dataflow.proofs.Opening.{flows_at_first}
use Rattle.dataflow.proofs.dataflow.Dataflow.new.Goals as goal

pub invariant_of-result : goal.invariant_of-result
invariant_of-result c = c.in_ok-stages.ensures.runs

pub returns-clause-flows : goal.returns-clause-flows
returns-clause-flows c = flows_at_first c.stages_of.new.texts c.args.capacity c.args.workers c.args.plan c.in_ok-stages.stages.items c.in_ok-stages.ensures.fresh c.requires.room
