-- Answers to the goals of dataflow::Dataflow::save.
use Rattle.std.specs.Prelude.{◌≡◌, ℕ, Some, List, IfOk, slice_get, map}
use Rattle.std.proofs.Common.{subst, sym}
use Rattle.std.proofs.lemmas.Result.{IfOk-weaker}
use Rattle.tw_rows.specs.declared.edge.Edge.{Edge}
use Rattle.plan_model.specs.IsPlan.{IsPlan}
use Rattle.dataflow.specs.declared.stage.Stage.{Stage}
use Rattle.dataflow.specs.Flows.{DataflowView, CanStep, Flows}
use Rattle.dataflow.specs.Saving.{CanSave, SavesAll, AreStates, AreStored, FlowsResume}
use Rattle.dataflow.proofs.Reloading.{lists, states_saved, flows_saved, stored_saved, can_save}
use Rattle.dataflow.proofs.dataflow.Dataflow.save.Goals as goal

pub save_all-requires : goal.save_all-requires
save_all-requires c =
    let P : DataflowView → Type 0 = λ d. (i : ℕ) (s : Stage) → slice_get d.stages i ≡ Some s → CanSave s in
    subst (λ l. (i : ℕ) (s : Stage) → slice_get l i ≡ Some s → CanSave s) (sym c.deref.ensures.value) (subst P (sym c.self.view_is) (can_save c.requires.0 c.requires.1.0 c.args.self.now c.requires.1.1))

pub returns-clause-states : goal.returns-clause-states
returns-clause-states c =
    let P : DataflowView → Type 0 = λ d. IfOk c.save_all.result (λ saved. (texts : List (List ℕ)) (last : ℕ) → CanStep texts last d → AreStates d.workers d.plan last (map lists saved.items)) in
    subst P c.self.view_is (IfOk-weaker c.save_all.result _ _ (λ saved all texts last can. states_saved _ (map lists saved.items) all c.self.invariant texts last can)
    (subst (λ l. IfOk c.save_all.result (λ saved. SavesAll l (map lists saved.items))) c.deref.ensures.value c.save_all.ensures))

pub returns-clause-resumes : goal.returns-clause-resumes
returns-clause-resumes c =
    let P : DataflowView → Type 0 = λ d. IfOk c.save_all.result (λ saved. (texts : List (List ℕ)) (last : ℕ) (given made : ℕ → List Edge) → Flows texts last given made d →
    FlowsResume texts last given made d.workers d.plan (map lists saved.items)) in
    subst P c.self.view_is (IfOk-weaker c.save_all.result _ _ (λ saved all texts last given made flows. flows_saved _ (map lists saved.items) all c.self.invariant texts last given made flows)
    (subst (λ l. IfOk c.save_all.result (λ saved. SavesAll l (map lists saved.items))) c.deref.ensures.value c.save_all.ensures))

pub returns-clause-stored : goal.returns-clause-stored
returns-clause-stored c =
    let P : DataflowView → Type 0 = λ d. IfOk c.save_all.result (λ saved. IsPlan d.plan → AreStored d.plan (map lists saved.items)) in
    let can = subst (CanStep c.requires.0 c.requires.1.0) (sym c.self.view_is) c.requires.1.1 in
    subst P c.self.view_is (IfOk-weaker c.save_all.result _ _ (λ saved all. stored_saved _ (map lists saved.items) all c.self.invariant c.requires.0 c.requires.1.0 can)
    (subst (λ l. IfOk c.save_all.result (λ saved. SavesAll l (map lists saved.items))) c.deref.ensures.value c.save_all.ensures))
