-- The parts of an engine after lines.
use Rattle.std.specs.Prelude.{◌≡◌, ◌≤◌, ℕ, Bool, false, Option, None, List, length, map, All}
use Rattle.tw_rows.specs.Instant.{inf}
use Rattle.tw_rows.specs.Cells.{datum_kind}
use Rattle.tw_rows.specs.Kinds.{cell_kind_of}
use Rattle.tw_rows.specs.Texts.{BeginsWith}
use Rattle.tw_rows.specs.declared.edge.Edge.{Edge}
use Rattle.edge_history.specs.Order.{is_below, failing}
use Rattle.plan_model.specs.IsPlan.{PlanParts, IsPlan, most_columns}
use Rattle.plan_laws.specs.Places.{EdgesArePlaced}
use Rattle.admission.specs.declared.policy.Policy.{Policy}
use Rattle.admission.specs.Entries.{Told, AreRead}
use Rattle.admission.specs.Progress.{Progress, progress, fault}
use Rattle.admission.specs.Text.{closed_up}
use Rattle.row_reader.specs.Printed.{IsEnd}
use Rattle.ingress.specs.Admits.{IsFor, Admits}
use Rattle.ingress.specs.Times.{IsTimed}
use Rattle.dataflow.specs.Flows.{CanStep, Flows}
use Rattle.egress.specs.Output.{Holds, IsPlacedIn}
use Rattle.tempo_engine.specs.Output.{result_kinds}
use Rattle.tempo_engine.specs.Texts.{texts_of}
use Rattle.tempo_engine.specs.declared.fault.EngineFault.{EngineFault}
use Rattle.tempo_engine.specs.declared.parts.Parts.{Parts}

-- the parts of an engine are as they can be once lines gave w: the ingress admitted these lines and released all edges before
-- the last punctuation, `given`; the nodes answered them with `lists`; and the text ends at the closing of the root, all of it
-- rendered. All times are event times or infinity, and the root's edges come below the closing, with cells of its columns
pub record Went (plan : PlanParts) (policy : Policy) (w : Progress) (given lists : ℕ → List Edge) (e : Parts) : Type 0 where
  pub fixed : IsFor plan.streams policy e.dataflow.capacity e.ingress
  pub took : Admits e.texts w.after given e.ingress
  pub released : e.ingress.released ≡ w.last
  pub pooled : e.pools.capacity ≡ e.dataflow.capacity
  pub planned : e.dataflow.plan ≡ plan
  pub flows : Flows e.texts w.last given lists e.dataflow
  pub placed : EdgesArePlaced e.texts (lists plan.root)
  pub holds : Holds e.texts (lists plan.root) e.closed e.closed e.egress
  pub waits : IsPlacedIn e.texts e.egress
  pub able : e.egress.failed ≡ false
  pub kinds : e.egress.rows.kinds.items ≡ result_kinds plan
  pub closed : e.closed ≡ closed_up plan 0 w.dues
  pub timed : IsTimed w.after
  pub instant : IsEnd w.last
  pub below : failing (is_below e.closed) (lists plan.root) ≡ 0
  pub typed : All (λ edge. map datum_kind edge.cells ≡ map cell_kind_of (result_kinds plan)) (lists plan.root)

-- they took these lines of a plan, of which none had a fault, and the input goes on: the streams gave these edges, and the nodes
-- answered with these. Each text in the table is one of the plan's expressions or of the row of a line
pub record HasFed (plan : PlanParts) (policy : Policy) (lines : List Told) (given lists : ℕ → List Edge) (e : Parts) : Type 0 where
  pub sound : IsPlan plan
  pub read : AreRead (length plan.streams) lines
  pub fine : fault plan policy lines false ≡ None
  pub texts : e.texts ≡ texts_of plan lines
  pub went : Went plan policy (progress plan policy lines false) given lists e

-- there are lists that begin with those, of which it holds
pub record Further (given lists : ℕ → List Edge) (P : (ℕ → List Edge) → (ℕ → List Edge) → Type 0) : Type 0 where
  pub more_given : ℕ → List Edge
  pub more_lists : ℕ → List Edge
  pub on_given : (k : ℕ) → BeginsWith (more_given k) (given k)
  pub on_lists : (k : ℕ) → BeginsWith (more_lists k) (lists k)
  pub there : P more_given more_lists

-- whatever lines they took
abbrev pub WhateverFed : Parts → (PlanParts → Policy → List Told → (ℕ → List Edge) → (ℕ → List Edge) → Type 0) → Type 0
WhateverFed e P = (plan : PlanParts) (policy : Policy) (lines : List Told) (given lists : ℕ → List Edge) → HasFed plan policy lines given lists e →
    P plan policy lines given lists

-- the parts of an engine can take a line and work through a punctuation, whatever was before. It is asked nothing of what they
-- mean: entries that nobody wrote can be taken up
pub record CanRun (e : Parts) : Type 0 where
  pub sound : IsPlan e.dataflow.plan
  pub fixed : IsFor e.dataflow.plan.streams e.ingress.policy e.dataflow.capacity e.ingress
  pub pooled : e.pools.capacity ≡ e.dataflow.capacity
  pub wide : most_columns ≤ e.pools.limit
  pub can : CanStep e.texts e.ingress.released e.dataflow
  pub low : e.ingress.released ≤ inf
  pub waits : IsPlacedIn e.texts e.egress
  pub able : e.egress.failed ≡ false

-- there are lines that they took, if they took up nothing that was saved
abbrev pub TookLines : Parts → Type 0
TookLines e = e.dataflow.thawed ≡ false →
    (plan : PlanParts) × ((policy : Policy) × ((lines : List Told) × ((given : ℕ → List Edge) × ((lists : ℕ → List Edge) × HasFed plan policy lines given lists e))))

pub record CanWork (e : Parts) : Type 0 where
  pub run : CanRun e
  pub took : TookLines e

-- what contracts see of an engine: its parts, the number of the last line, the fault that it answered, if it did, and whether the
-- input has ended
pub record EngineView : Type 0 where
  pub parts : Parts
  pub lines : ℕ
  pub fault : Option EngineFault
  pub ended : Bool

-- without a fault, and before the end of the input, the parts can work on
abbrev pub GoesOn : Option EngineFault → Bool → Parts → Type 0
GoesOn None false e = CanWork e
GoesOn fault ended e = Unit {0}
