use Rattle.std.specs.Prelude.{map}
use Rattle.std.proofs.Common.{sym, subst}
use Rattle.plan_model.specs.IsPlan.{PlanParts}
use Rattle.dataflow.specs.Saving.{FlowsResume}
use Rattle.tempo_engine.proofs.freezing.dataflow_of.Goals as goal

pub load-requires-clause-made : goal.load-requires-clause-made
load-requires-clause-made c = c.in_ok-dataflow.ensures.made

pub load-requires-clause-can : goal.load-requires-clause-can
load-requires-clause-can c = (c.new.new.texts, c.in_ok-dataflow.ensures.flows.can)

pub returns-in-Ok-clause-flows : goal.returns-in-Ok-clause-flows
returns-in-Ok-clause-flows c = λ given lists resumes.
    let saved = map (λ v. v.items) c.args.nodes.now in
    c.in-Ok.ensures.flows c.new.new.texts c.args.texts.now given lists c.in_ok-dataflow.ensures.flows.can c.in_ok-dataflow.ensures.begins
    (subst (λ n. FlowsResume c.args.texts.now c.args.last given lists n c.in_ok-dataflow.dataflow.plan saved) (sym c.in_ok-dataflow.ensures.workers)
    (subst (λ (q : PlanParts). FlowsResume c.args.texts.now c.args.last given lists c.args.workers q saved) (sym c.in_ok-dataflow.ensures.plan) resumes))

pub returns-in-Ok-clause-can : goal.returns-in-Ok-clause-can
returns-in-Ok-clause-can c = c.in-Ok.ensures.can c.new.new.texts c.in_ok-dataflow.ensures.flows.can
