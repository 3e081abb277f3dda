-- A punctuation while it is worked through, slice by slice.
use Rattle.std.specs.Prelude.{◌≡◌, ◌≢◌, ℕ, ◌<◌, ◌≤◌, false, Some, None, All, List, length, map}
use Rattle.tw_rows.specs.Cells.{datum_kind}
use Rattle.tw_rows.specs.Kinds.{cell_kind_of}
use Rattle.tw_rows.specs.declared.edge.Edge.{Edge}
use Rattle.edge_history.specs.Order.{is_below, failing}
use Rattle.plan_model.specs.IsPlan.{PlanParts, IsPlan, most_columns}
use Rattle.plan_model.specs.Meaning.{closes, events}
use Rattle.plan_laws.specs.Undefined.{overflow}
use Rattle.plan_laws.specs.Places.{EdgesArePlaced}
use Rattle.plan_laws.specs.Standing.{StandsRead}
use Rattle.admission.specs.declared.policy.Policy.{Policy}
use Rattle.admission.specs.Admission.{Admission, rows}
use Rattle.admission.specs.Progress.{Progress}
use Rattle.admission.specs.Text.{closed_up}
use Rattle.ingress.specs.Admits.{IsFor, Follows}
use Rattle.dataflow.specs.Below.{CanStepBelow, FlowsBelow}
use Rattle.dataflow.specs.Flows.{Flows}
use Rattle.dataflow.specs.Stages.{reached}
use Rattle.egress.specs.Output.{Holds}
use Rattle.tempo_engine.specs.Output.{result_kinds}
use Rattle.tempo_engine.specs.declared.parts.Parts.{Parts}

-- up to where the root is closed once its plan was stepped at x, 0 before the first step
abbrev pub root_reached : PlanParts → ℕ → ℕ
root_reached plan x = reached x (closes plan.nodes plan.root x)

-- no node is undefined below its closing at x, and the root's edges stand for its events below its closing
pub record RootStands (texts : List (List ℕ)) (x : ℕ) (plan : PlanParts) (w : Progress) (out : List Edge) : Type 0 where
  pub defined : overflow (rows w.after) plan.nodes x ≡ None
  pub root : StandsRead texts (closes plan.nodes plan.root x) out (events (rows w.after) plan.nodes plan.root)

-- the punctuation behind w is worked through in slices: all edges before the time of the last release went through the plan,
-- and the egress took what the root changed up to its closing then. Nothing is rendered of it: the text ends where it did at w
pub record IsUnderway (plan : PlanParts) (policy : Policy) (w : Progress) (given lists : ℕ → List Edge) (e : Parts) : Type 0 where
  pub sound : IsPlan plan
  pub rises : w.last ≤ e.ingress.released
  pub fixed : IsFor plan.streams policy e.dataflow.capacity e.ingress
  pub follows : Follows e.texts w.after given e.ingress
  pub planned : e.dataflow.plan ≡ plan
  pub flows : Flows e.texts e.ingress.released given lists e.dataflow
  pub placed : EdgesArePlaced e.texts (lists plan.root)
  pub holds : Holds e.texts (lists plan.root) e.closed (root_reached plan e.ingress.released) e.egress
  pub kinds : e.egress.rows.kinds.items ≡ result_kinds plan
  pub closed : e.closed ≡ closed_up plan 0 w.dues
  pub below : failing (is_below (root_reached plan e.ingress.released)) (lists plan.root) ≡ 0
  pub typed : All (λ edge. map datum_kind edge.cells ≡ map cell_kind_of (result_kinds plan)) (lists plan.root)
  pub stands : w.last < e.ingress.released → RootStands e.texts e.ingress.released plan w (lists plan.root)

-- whenever one is, and of some lines, if the parts took up nothing that was saved
abbrev pub WhileUnderway : Parts → (PlanParts → Policy → Progress → (ℕ → List Edge) → (ℕ → List Edge) → Type 0) → Type 0
WhileUnderway e P = (plan : PlanParts) (policy : Policy) (w : Progress) (given lists : ℕ → List Edge) → IsUnderway plan policy w given lists e →
    P plan policy w given lists

abbrev pub IsUnderwayOfLines : Parts → Type 0
IsUnderwayOfLines e = e.dataflow.thawed ≡ false →
    (plan : PlanParts) × ((policy : Policy) × ((w : Progress) × ((given : ℕ → List Edge) × ((lists : ℕ → List Edge) ×
    IsUnderway plan policy w given lists e))))

-- at the end of a slice the node of that number failed, and those below it can take a step more
pub record CanStepRest (node : ℕ) (e : Parts) : Type 0 where
  pub sound : IsPlan e.dataflow.plan
  pub fixed : IsFor e.dataflow.plan.streams e.ingress.policy e.dataflow.capacity e.ingress
  pub pooled : e.pools.capacity ≡ e.dataflow.capacity
  pub wide : most_columns ≤ e.pools.limit
  pub failed : e.dataflow.fault ≢ None
  pub low : node ≤ length e.dataflow.plan.nodes
  pub can : CanStepBelow e.texts e.ingress.released node e.dataflow

-- it overflows there at that time, over the lines that gave a, and the nodes below it have taken all edges before the slice's end
pub record HasOverflowed (node time : ℕ) (a : Admission) (given lists : ℕ → List Edge) (e : Parts) : Type 0 where
  pub follows : Follows e.texts a given e.ingress
  pub flows : FlowsBelow e.texts e.ingress.released node given lists e.dataflow
  pub found : overflow (rows a) e.dataflow.plan.nodes e.ingress.released ≡ Some (record { node = node; time = time })

-- there are such lines, if the parts took up nothing that was saved
abbrev pub HasOverflowedOfLines : ℕ → ℕ → Parts → Type 0
HasOverflowedOfLines node time e = e.dataflow.thawed ≡ false →
    (a : Admission) × ((given : ℕ → List Edge) × ((lists : ℕ → List Edge) × HasOverflowed node time a given lists e))
