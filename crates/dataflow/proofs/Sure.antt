-- Places that are in the table, by a test or by what the stages took steps of, and the overflow of a node.
use Rattle.std.proofs.Common.{Result, Ok, Err, ◌≡◌, ◌<◌, ℕ, zero, suc, Bool, true, false, List, [], ◌∷◌, length, get_or, refl, ap, sym, subst, arith}
use Rattle.std.specs.Prelude.{Option, Some, None, slice_get, IfOk, IfErr, OnOk}
use Rattle.std.specs.Result.{IsErrAnd}
use Rattle.std.proofs.lemmas.List.Elements.{All-nil}
use Rattle.tw_rows.specs.Cells.{ArePlaced}
use Rattle.tw_rows.specs.declared.edge.Edge.{Edge}
use Rattle.edge_stream.specs.Listing.{EdgeListView}
use Rattle.edge_stream.specs.declared.saved.StepFault.{StepFault}
use Rattle.edge_stream.specs.declared.saved.StepFault.TheVariants as steps
use Rattle.plan_laws.specs.Places.{EdgesArePlaced}
use Rattle.dataflow.specs.declared.fault.PlanFault.{PlanFault}
use Rattle.dataflow.specs.declared.fault.PlanFault.TheVariants as faults
use Rattle.dataflow.specs.Faults.{fault_at}
use Rattle.plan_model.specs.IsPlan.{PlanParts}
use Rattle.edge_stream.specs.Lists.{edges_at}
use Rattle.dataflow.specs.Lists.{AreOfStreams, AreGiven}
use Rattle.dataflow.specs.declared.stage.Stage.{Stage}
use Rattle.dataflow.specs.Flows.{DataflowView, StepsOn, GivesOn, parts_of}
use Rattle.dataflow.proofs.Workers.{with_workers}

pub sure_or_tested : (thawed : Bool) (P : Type 0) → (thawed ≡ false → P) → (thawed ≡ true → P) → P
sure_or_tested true P sure tested = tested refl
sure_or_tested false P sure tested = sure refl

-- an overflow that is told of a node is one of that node
pub fault_of_overflow : (i : ℕ) (f : StepFault) (node time : ℕ) → fault_at i f ≡ faults.Overflow node time → (node ≡ i) × (f ≡ steps.Overflow time)
fault_of_overflow i (steps.Overflow t) node time e = (cc, cc)
fault_of_overflow i steps.Memory node time e = absurd (cc)

-- list by list
pub all_placed : (texts : List (List ℕ)) (lists : List EdgeListView) → ((k : ℕ) (d : EdgeListView) → k < length lists → EdgesArePlaced texts (get_or lists k d).edges) → (s : ℕ) → EdgesArePlaced texts (edges_at lists s)
all_placed texts [] all s = All-nil (λ (e : Edge). ArePlaced texts e.cells)
all_placed texts (l ∷ ls) all zero = all 0 l (omega arith)
all_placed texts (l ∷ ls) all (suc s) = all_placed texts ls (λ k d low. all (suc k) d (omega (arith, low))) s

edges_there : (lists : List EdgeListView) (s : ℕ) (l : EdgeListView) → slice_get lists s ≡ Some l → edges_at lists s ≡ l.edges
edges_there [] s l there = absurd (let t = there in cc)
edges_there (x ∷ lists) zero l there = (let m : x ≡ l = (let t = there in cc) in ap (λ y. y.edges) m)
edges_there (x ∷ lists) (suc s) l there = edges_there lists s l there

-- lists of streams whose places are in the table
pub given_placed : (texts : List (List ℕ)) (capacity : ℕ) (plan : PlanParts) (lists : List EdgeListView) → AreOfStreams capacity plan lists → ((s : ℕ) → EdgesArePlaced texts (edges_at lists s)) → AreGiven texts capacity plan lists
given_placed texts capacity plan lists are placed = record {
  count = are.count;
  each = λ s l there. record {
    cells = are.cells s l there;
    rows = are.rows s l there;
    placed = subst (EdgesArePlaced texts) (edges_there lists s l there) (placed s);
  };
}

-- out of memory is no overflow
pub of_memory : {T : Type 0} (r : Result T PlanFault) (Q : PlanFault → Type 0) → IsErrAnd r (λ f. f ≡ faults.Memory) → ((f : PlanFault) → f ≡ faults.Memory → Q f) → IfErr r Q
of_memory (Ok x) Q is all = tt
of_memory (Err f) Q is all = all f is

-- after a step without a fault none is kept
pub steps_on : {X : Type 0} (r : Result X PlanFault) (texts : List (List ℕ)) (p : ℕ) (old : DataflowView) (plan : PlanParts) (stages : List Stage) (capacity workers : ℕ) (thawed : Bool) (fault : Option PlanFault) →
    OnOk r (fault ≡ None) → OnOk r (StepsOn texts p old (with_workers workers (parts_of plan stages capacity thawed))) →
    OnOk r (StepsOn texts p old (record { plan = plan; stages = stages; capacity = capacity; workers = workers; thawed = thawed; fault = fault }))
steps_on (Ok x) texts p old plan stages capacity workers thawed fault none steps =
    subst (λ f. StepsOn texts p old (record { plan = plan; stages = stages; capacity = capacity; workers = workers; thawed = thawed; fault = f })) (sym none) steps
steps_on (Err f) texts p old plan stages capacity workers thawed fault none steps = tt

pub gives_on : {X : Type 0} (edges : X → List Edge) (r : Result X PlanFault) (texts : List (List ℕ)) (p : ℕ) (given : ℕ → List Edge) (old : DataflowView) (plan : PlanParts) (stages : List Stage) (capacity workers : ℕ) (thawed : Bool)
    (fault : Option PlanFault) → OnOk r (fault ≡ None) → IfOk r (λ out. GivesOn texts p given old (with_workers workers (parts_of plan stages capacity thawed)) (edges out)) →
    IfOk r (λ out. GivesOn texts p given old (record { plan = plan; stages = stages; capacity = capacity; workers = workers; thawed = thawed; fault = fault }) (edges out))
gives_on edges (Ok x) texts p given old plan stages capacity workers thawed fault none gives =
    subst (λ f. GivesOn texts p given old (record { plan = plan; stages = stages; capacity = capacity; workers = workers; thawed = thawed; fault = f }) (edges x)) (sym none) gives
gives_on edges (Err f) texts p given old plan stages capacity workers thawed fault none gives = tt
