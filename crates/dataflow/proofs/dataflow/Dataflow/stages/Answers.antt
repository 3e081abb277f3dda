use Rattle.std.proofs.Common.{sym, subst}
use Rattle.dataflow.specs.Flows.{DataflowView}
use Rattle.dataflow.specs.Shards.{RunAll}
use Rattle.dataflow.proofs.dataflow.Dataflow.stages.Goals as goal

pub returns-clause-runs : goal.returns-clause-runs
returns-clause-runs c =
    let all : DataflowView → Type 0 = λ d. RunAll d.workers d.plan.nodes c.deref.result.now in
    subst all c.self.view_is (subst (RunAll c.self.inside.workers c.self.inside.plan.nodes) (sym c.deref.ensures.value) c.self.invariant)
