-- The parts of an engine, frozen and made again, while they are at it.
use Rattle.std.specs.Prelude.{ℕ, ◌+◌, List, length, All}
use Rattle.tw_rows.specs.Bag.{total}
use Rattle.tw_rows.specs.Event.{alive}
use Rattle.tw_rows.specs.declared.edge.Edge.{Edge}
use Rattle.plan_model.specs.IsPlan.{PlanParts, IsPlan}
use Rattle.plan_model.specs.Opens.{before}
use Rattle.plan_laws.specs.Places.{read_of}
use Rattle.admission.specs.declared.policy.Policy.{Policy}
use Rattle.admission.specs.Keeping.{IsGoing}
use Rattle.admission.specs.Progress.{Progress}
use Rattle.ingress.specs.Counts.{may_hold}
use Rattle.dataflow.specs.Stages.{entries_in}
use Rattle.frozen_state.specs.Frozen.{FrozenView}
use Rattle.frozen_state.specs.Forms.{PartFormView}
use Rattle.frozen_state.specs.Formed.{IsFormed, ArePartsOf, IsOneLine}
use Rattle.tempo_engine.specs.Kept.{KeptView, kept_of}
use Rattle.tempo_engine.specs.Named.{PartsArePlaced}
use Rattle.tempo_engine.specs.Frozen.{FitsProgress}
use Rattle.tempo_engine.specs.Went.{Went}
use Rattle.tempo_engine.specs.declared.parts.Parts.{Parts}

-- whatever lines the parts went through
abbrev pub WhateverWent : Parts → (PlanParts → Policy → Progress → (ℕ → List Edge) → (ℕ → List Edge) → Type 0) → Type 0
WhateverWent e P = (plan : PlanParts) (policy : Policy) (w : Progress) (given lists : ℕ → List Edge) → IsPlan plan → IsGoing (length plan.streams) w →
    Went plan policy w given lists e → P plan policy w given lists

-- it is of its form, and fits what the parts went through
pub record FitsParts (workers : ℕ) (plan : PlanParts) (w : Progress) (given lists : ℕ → List Edge) (f : FrozenView) : Type 0 where
  pub formed : IsFormed workers plan f
  pub fits : FitsProgress workers plan w given lists f.texts (kept_of workers plan f)

-- the parts went through whatever lines that fits, with places in the table
abbrev pub GoesOnFrom : ℕ → PlanParts → Policy → List (List ℕ) → KeptView → Parts → Type 0
GoesOnFrom workers plan policy texts k e = (w : Progress) (given lists : ℕ → List Edge) → IsGoing (length plan.streams) w →
    FitsProgress workers plan w given lists texts k → Went plan policy w given lists e

-- the entries are stored as the forms of their parts say, with places in the table, and each text is of one line
pub record HasForm (forms : List PartFormView) (texts : List (List ℕ)) (f : FrozenView) : Type 0 where
  pub parts : ArePartsOf forms f.parts
  pub placed : PartsArePlaced texts f.parts
  pub one_line : All IsOneLine f.texts

-- how many entries the parts keep at most: those of the stages, what may be held of the streams, and one for each row that is
-- alive at the root just before its closing
abbrev pub kept_at_most : PlanParts → Progress → (ℕ → List Edge) → Parts → ℕ
kept_at_most plan w lists e =
    total entries_in e.dataflow.stages + may_hold (length plan.streams) w.last w.after
    + length (before (alive (read_of e.texts (lists plan.root))) e.closed)
