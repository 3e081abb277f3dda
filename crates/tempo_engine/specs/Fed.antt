-- An engine after lines.
use Rattle.std.specs.Prelude.{◌≡◌, ℕ, false, None, List, [], ◌∷◌, ◌++◌, length, fold}
use Rattle.tw_rows.specs.declared.edge.Edge.{Edge}
use Rattle.plan_model.specs.IsPlan.{PlanParts, IsPlan}
use Rattle.admission.specs.declared.policy.Policy.{Policy}
use Rattle.admission.specs.Entries.{Told, AreRead}
use Rattle.admission.specs.Progress.{progress, fault}
use Rattle.tempo_engine.specs.Texts.{texts_of}
use Rattle.tempo_engine.specs.Went.{Went, Further, EngineView}

-- the number of the last line: of lines 4 and 7 it is 7, and of none 0
abbrev pub last_number : List Told → ℕ
last_number lines = fold (λ n line. line.number) 0 lines

-- the engine of this plan and this policy took these lines, of which none had a fault, and the input goes on. At first it
-- took no line. The streams gave these edges, and the nodes answered with these. Each text in the table is one of the plan's
-- expressions or of the row of a line
pub record FedBy (plan : PlanParts) (policy : Policy) (lines : List Told) (given lists : ℕ → List Edge) (e : EngineView) : Type 0 where
  pub sound : IsPlan plan
  pub read : AreRead (length plan.streams) lines
  pub fine : fault plan policy lines false ≡ None
  pub none : e.fault ≡ None
  pub going : e.ended ≡ false
  pub number : e.lines ≡ last_number lines
  pub texts : e.parts.texts ≡ texts_of plan lines
  pub went : Went plan policy (progress plan policy lines false) given lists e.parts

-- for some edges
pub record Fed (plan : PlanParts) (policy : Policy) (lines : List Told) (e : EngineView) : Type 0 where
  pub given : ℕ → List Edge
  pub lists : ℕ → List Edge
  pub by : FedBy plan policy lines given lists e

-- whatever lines it took
abbrev pub WhateverTook : EngineView → (PlanParts → Policy → List Told → Type 0) → Type 0
WhateverTook e P = (plan : PlanParts) (policy : Policy) (lines : List Told) → Fed plan policy lines e → P plan policy lines

-- the streams gave more edges, and the nodes answered with more, with one line more
abbrev pub FeedsOn : EngineView → (PlanParts → Told) → EngineView → Type 0
FeedsOn old line new = (plan : PlanParts) (policy : Policy) (lines : List Told) (given lists : ℕ → List Edge) → FedBy plan policy lines given lists old →
    Further given lists (λ more_given more_lists. FedBy plan policy (lines ++ line plan ∷ []) more_given more_lists new)
