-- Answers to the goals of dataflow::Dataflow::load.
use Rattle.std.specs.Prelude.{◌≡◌, true, ℕ, List, IfErr, OnOk, map}
use Rattle.std.proofs.Common.{subst, sym}
use Rattle.std.proofs.lemmas.Result.{IfErr-weaker}
use Rattle.tw_rows.specs.Texts.{BeginsWith}
use Rattle.tw_rows.specs.declared.edge.Edge.{Edge}
use Rattle.edge_stream.specs.declared.saved.LoadFault.TheVariants.{NotState}
use Rattle.dataflow.specs.Flows.{DataflowView, CanStep, Flows}
use Rattle.dataflow.specs.Saving.{AreStates, FlowsResume}
use Rattle.dataflow.proofs.Reloading.{lists, on_ok_both, can_loaded, states_loaded, flows_loaded, refused_states}
use Rattle.dataflow.proofs.dataflow.Dataflow.load.Goals as goal

pub returns-clause-can : goal.returns-clause-can
returns-clause-can c =
    let saved = map lists c.args.saved.now in
    let old : DataflowView = record { plan = c.self.inside.plan; stages = c.self.inside.stages.items; capacity = c.self.inside.capacity; workers = c.self.inside.workers; thawed = c.self.inside.thawed; fault = c.self.inside.fault } in
    let new = record old { stages = c.load_all-loaded.new.stages.items; thawed = true; fault = c.fault_after-self-inside.result } in
    let P : DataflowView → Type 0 = λ d. OnOk c.load_all-loaded.result ((texts : List (List ℕ)) → CanStep texts 0 d → CanStep texts c.args.last new) in
    subst P c.self.view_is (on_ok_both c.load_all-loaded.result (λ all fine texts can. can_loaded c.args.last old c.load_all-loaded.new.stages.items saved c.fault_after-self-inside.result fine all c.self.invariant texts can)
    c.load_all-loaded.ensures.loads c.fault_after-self-inside.ensures.ok)

pub returns-clause-flows : goal.returns-clause-flows
returns-clause-flows c =
    let saved = map lists c.args.saved.now in
    let old : DataflowView = record { plan = c.self.inside.plan; stages = c.self.inside.stages.items; capacity = c.self.inside.capacity; workers = c.self.inside.workers; thawed = c.self.inside.thawed; fault = c.self.inside.fault } in
    let new = record old { stages = c.load_all-loaded.new.stages.items; thawed = true; fault = c.fault_after-self-inside.result } in
    let P : DataflowView → Type 0 = λ d. OnOk c.load_all-loaded.result ((texts then : List (List ℕ)) (given lists : ℕ → List Edge) → CanStep texts 0 d → BeginsWith texts then →
    FlowsResume then c.args.last given lists d.workers d.plan saved → Flows texts c.args.last given lists new) in
    subst P c.self.view_is (on_ok_both c.load_all-loaded.result (λ all fine texts then given lists can begins resume. flows_loaded c.args.last old c.load_all-loaded.new.stages.items saved c.fault_after-self-inside.result fine all c.self.invariant texts can then begins given lists resume)
    c.load_all-loaded.ensures.loads c.fault_after-self-inside.ensures.ok)

pub returns-clause-states : goal.returns-clause-states
returns-clause-states c =
    let saved = map lists c.args.saved.now in
    let old : DataflowView = record { plan = c.self.inside.plan; stages = c.self.inside.stages.items; capacity = c.self.inside.capacity; workers = c.self.inside.workers; thawed = c.self.inside.thawed; fault = c.self.inside.fault } in
    let can : CanStep c.requires.can.0 0 old = subst (CanStep c.requires.can.0 0) (sym c.self.view_is) c.requires.can.1 in
    let P : DataflowView → Type 0 = λ d. OnOk c.load_all-loaded.result (AreStates d.workers d.plan c.args.last saved) in
    subst P c.self.view_is (on_ok_both c.load_all-loaded.result (λ all fine. states_loaded c.args.last old c.load_all-loaded.new.stages.items saved c.fault_after-self-inside.result fine all c.self.invariant c.requires.can.0 can)
    c.load_all-loaded.ensures.loads c.fault_after-self-inside.ensures.ok)

pub returns-clause-refused : goal.returns-clause-refused
returns-clause-refused c =
    let saved = map lists c.args.saved.now in
    let old : DataflowView = record { plan = c.self.inside.plan; stages = c.self.inside.stages.items; capacity = c.self.inside.capacity; workers = c.self.inside.workers; thawed = c.self.inside.thawed; fault = c.self.inside.fault } in
    let can : CanStep c.requires.can.0 0 old = subst (CanStep c.requires.can.0 0) (sym c.self.view_is) c.requires.can.1 in
    let P : DataflowView → Type 0 = λ d. IfErr c.load_all-loaded.result (λ fault. fault ≡ NotState → AreStates d.workers d.plan c.args.last saved → ⊥) in
    subst P c.self.view_is (IfErr-weaker c.load_all-loaded.result _ _ (λ fault none is states. refused_states c.requires.can.0 c.args.last old saved c.self.invariant (none is) can states) c.load_all-loaded.ensures.refused)

pub invariant_of-self-2 : goal.invariant_of-self-2
invariant_of-self-2 c = c.load_all-loaded.ensures.runs c.self.inside.workers c.self.invariant
