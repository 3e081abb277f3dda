-- Up to where the nodes of a plan are final.
use Rattle.std.specs.Prelude.{◌≡◌, ℕ, ◌<◌, List, length, slice_index_or}
use Rattle.tw_rows.specs.Instant.{inf}
use Rattle.plan_model.specs.IsPlan.{PlanParts}
use Rattle.plan_model.specs.Meaning.{closes}

-- the first times are the closings of the nodes at the punctuation p. Of a source and a delay by 5 over it at 7: 7 and 12
abbrev pub AreClosings : PlanParts → ℕ → List ℕ → Type 0
AreClosings plan p closings = (i : ℕ) → i < length plan.nodes → slice_index_or closings i inf ≡ closes plan.nodes i p
