-- What an engine holds after lines.
use Rattle.std.specs.Prelude.{◌≡◌, ℕ, ◌+◌, ◌-◌, ◌^◌, ◌≤◌, ◌⊎◌, min, Bool, false, Some, None, List, [], ◌∷◌, ◌++◌, length, slice_get}
use Rattle.tw_rows.specs.Bag.{total}
use Rattle.tw_rows.specs.declared.edge.Edge.{Edge}
use Rattle.plan_model.specs.declared.node.Node.TheVariants.{Source}
use Rattle.plan_model.specs.IsPlan.{PlanParts, IsPlan}
use Rattle.plan_laws.specs.Held.{node_may_hold}
use Rattle.admission.specs.declared.policy.Policy.{Policy}
use Rattle.admission.specs.Admission.{rows}
use Rattle.admission.specs.Entries.{Told, AreRead}
use Rattle.admission.specs.Progress.{Progress, progress, fault}
use Rattle.ingress.specs.Admits.{Follows}
use Rattle.ingress.specs.Counts.{may_hold}
use Rattle.dataflow.specs.declared.stage.Stage.{Stage}
use Rattle.dataflow.specs.Flows.{Flows, held_from}
use Rattle.dataflow.specs.Stages.{entries_in}
use Rattle.tempo_engine.specs.Texts.{texts_of}
use Rattle.tempo_engine.specs.Went.{EngineView}
use Rattle.tempo_engine.specs.declared.parts.Parts.{Parts}

-- the parts of an engine are as they can be once lines gave w, whether or not more lines can follow: the ingress admitted
-- these lines and released all edges before the last punctuation, `given`, and the nodes answered them with `lists`
pub record HasWorked (plan : PlanParts) (w : Progress) (e : Parts) : Type 0 where
  pub given : ℕ → List Edge
  pub lists : ℕ → List Edge
  pub took : Follows e.texts w.after given e.ingress
  pub streams : length e.ingress.kinds.items ≡ length plan.streams
  pub released : e.ingress.released ≡ w.last
  pub planned : e.dataflow.plan ≡ plan
  pub flows : Flows e.texts w.last given lists e.dataflow

-- the lines begin with `made`, and by these the last punctuation was due: so of the lines up to the one that made it due, and
-- of all lines. Of an interval, a punctuation at 3, an interval and another: of the first two, the first three, and all four;
-- before the first punctuation also of no line
pub record MadeDue (plan : PlanParts) (policy : Policy) (lines : List Told) (ended : Bool) (made : List Told) : Type 0 where
  pub since : List Told
  pub all : lines ≡ made ++ since
  pub last : (made ≡ lines) ⊎ ((progress plan policy made false).last ≡ (progress plan policy lines ended).last)

-- the engine of this plan and this policy took these lines, all of the input or not yet, and none had a fault; each text in the
-- table is one of the plan's expressions or of the row of a line; and no node
-- keeps more entries than it may after the last punctuation, over the rows of the lines that made it due. After intervals from
-- i to i + 1, for i from 0 to 9, and a punctuation at 10, a group with one aggregate over their source keeps at most 5 entries,
-- since one row has an end that is not below 10
pub record Holds (plan : PlanParts) (policy : Policy) (lines : List Told) (ended : Bool) (e : EngineView) : Type 0 where
  pub sound : IsPlan plan
  pub read : AreRead (length plan.streams) lines
  pub fine : fault plan policy lines ended ≡ None
  pub none : e.fault ≡ None
  pub texts : e.parts.texts ≡ texts_of plan lines
  pub worked : HasWorked plan (progress plan policy lines ended) e.parts
  pub few : (made : List Told) → MadeDue plan policy lines ended made → (i : ℕ) (s : Stage) → slice_get e.parts.dataflow.stages i ≡ Some s →
      entries_in s ≤ node_may_hold (rows (progress plan policy made false).after) plan.nodes (progress plan policy lines ended).last i

-- the pairs, where the first one tells so much. With 4, of (0, 0) and (1, 3): (0, 4) and (1, 3)
abbrev pub with_first : ℕ → List (ℕ × ℕ) → List (ℕ × ℕ)
with_first n [] = []
with_first n (p ∷ ps) = (p.0, n) ∷ ps

-- the pairs tell what the parts of an engine hold once lines gave w: a pair for each node, in order, its number and how many
-- entries it keeps. The first node, which is a Source, has what the ingress holds for all Sources: the edges that wait for
-- their punctuation, and the starts without their ends; the other Sources have 0
pub record AreHeld (plan : PlanParts) (w : Progress) (e : Parts) (pairs : List (ℕ × ℕ)) : Type 0 where
  pub first : (stream : ℕ) × (slice_get plan.nodes 0 ≡ Some (Source stream))
  pub sources : ℕ
  pub waiting : sources ≡ min (length w.after.opens + total (λ l. length l) e.ingress.held.waiting.items) (2 ^ 64 - 1)
  pub few : sources ≤ may_hold (length plan.streams) w.last w.after
  pub told : pairs ≡ with_first sources (held_from 0 e.dataflow.stages)
