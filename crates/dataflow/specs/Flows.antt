-- A plan at work: what each of its stages keeps of the edges of streams, and what a step gives.
use Rattle.std.specs.Prelude.{◌≡◌, ℕ, suc, ◌-◌, ◌^◌, ◌<◌, ◌≤◌, min, Bool, false, Option, Some, None, List, [], ◌∷◌, length, slice_get}
use Rattle.tw_rows.specs.declared.edge.Edge.{Edge}
use Rattle.edge_history.specs.Order.{is_from, failing}
use Rattle.plan_model.specs.declared.node.Node.{Node}
use Rattle.plan_model.specs.IsPlan.{PlanParts}
use Rattle.plan_model.specs.Meaning.{Sources, closes, left_of, right_of}
use Rattle.plan_laws.specs.Undefined.{overflow}
use Rattle.plan_laws.specs.Places.{AreDistinct}
use Rattle.plan_laws.specs.Standing.{SourcesStandRead, AllStandRead}
use Rattle.dataflow.specs.declared.fault.PlanFault.{PlanFault}
use Rattle.dataflow.specs.declared.stage.Stage.{Stage}
use Rattle.edge_stream.specs.Lists.{longer}
use Rattle.dataflow.specs.Lists.{AreFrom}
use Rattle.dataflow.specs.Stages.{reached, left_closing, right_closing, left_kinds, right_kinds, IsReady, StageKeeps, entries_in}

-- what contracts see of a plan at work: the plan, its stages, how many rows each batch has room for, in how many shards a node
-- with a key is run, whether the stages took up what was saved, and the fault of a step
pub record DataflowView : Type 0 where
  pub plan : PlanParts
  pub stages : List Stage
  pub capacity : ℕ
  pub workers : ℕ
  pub thawed : Bool
  pub fault : Option PlanFault

-- so much of a plan with these stages, of which no step failed. What follows asks of no number of workers, and here it is 1
abbrev pub parts_of : PlanParts → List Stage → ℕ → Bool → DataflowView
parts_of plan stages capacity thawed = record { plan = plan; stages = stages; capacity = capacity; workers = 1; thawed = thawed; fault = None }

-- each stage can take a step, once the punctuation `last` was worked through
abbrev pub AreReady : List (List ℕ) → ℕ → PlanParts → ℕ → List Stage → Type 0
AreReady texts capacity plan last stages = (i : ℕ) (n : Node) (s : Stage) → slice_get plan.nodes i ≡ Some n → slice_get stages i ≡ Some s →
    IsReady texts capacity (left_kinds plan n) (right_kinds plan n) n s
    (reached last (left_closing plan.nodes last n)) (reached last (right_closing plan.nodes last n))

-- no step failed, and the plan can take a step with this table, once the punctuation `last` was
-- worked through; 0 is before the first one
pub record CanStep (texts : List (List ℕ)) (last : ℕ) (d : DataflowView) : Type 0 where
  pub count : length d.stages ≡ length d.plan.nodes
  pub fine : d.fault ≡ None
  pub room : 1 ≤ d.capacity
  pub ready : AreReady texts d.capacity d.plan last d.stages

-- the plan is as it can be once the punctuation `last` was worked through, where `given` are the edges that each stream gave
-- so far, and `lists` those that each node answered: each stage keeps what it read of these and answered. At first all lists
-- are empty
pub record Flows (texts : List (List ℕ)) (last : ℕ) (given lists : ℕ → List Edge) (d : DataflowView) : Type 0 where
  pub can : CanStep texts last d
  pub first : last ≡ 0 → (k : ℕ) → (given k ≡ []) × (lists k ≡ [])
  pub kept : (i : ℕ) (n : Node) (s : Stage) → slice_get d.plan.nodes i ≡ Some n → slice_get d.stages i ≡ Some s →
      StageKeeps texts n s (reached last (left_closing d.plan.nodes last n)) (reached last (right_closing d.plan.nodes last n))
      (left_of [] given lists n) (right_of [] lists n) (lists i)

-- the stages took steps of something before: there are a last punctuation before p, and sources for which the edges before and
-- those that are given stand below p, where these come at the last punctuation or later
pub record HasPast (texts : List (List ℕ)) (p : ℕ) (given : ℕ → List Edge) (d : DataflowView) : Type 0 where
  pub last : ℕ
  pub old : ℕ → List Edge
  pub lists : ℕ → List Edge
  pub source : Sources
  pub distinct : AreDistinct texts
  pub flows : Flows texts last old lists d
  pub later : last < p
  pub stand : SourcesStandRead texts p source (longer old given)
  pub from : AreFrom last given

-- the step at the punctuation p may be taken with these edges, given for each stream: the stages are as they can be once an
-- earlier punctuation was worked through. Where they took up what was saved, nothing is asked of what came before it
pub record MayStep (texts : List (List ℕ)) (p : ℕ) (given : ℕ → List Edge) (d : DataflowView) : Type 0 where
  pub last : ℕ
  pub can : CanStep texts last d
  pub later : last < p
  pub past : d.thawed ≡ false → HasPast texts p given d

-- and a further step may be taken behind it
abbrev pub StepsOn : List (List ℕ) → ℕ → DataflowView → DataflowView → Type 0
StepsOn texts p d after = (last : ℕ) → CanStep texts last d → last < p → CanStep texts p after

-- what a step gives at the punctuation p, after `last`, for more edges of the streams: more edges of each node, `out` of them
-- those of the root. Each node's list then stands for its events below its closing, and no node is undefined there
pub record HasFlowed (texts : List (List ℕ)) (last p : ℕ) (source : Sources) (old given lists : ℕ → List Edge) (d : DataflowView)
    (out : List Edge) : Type 0 where
  pub more : ℕ → List Edge
  pub flows : Flows texts p (longer old given) (longer lists more) d
  pub stand : AllStandRead texts d.plan.nodes p source (longer lists more) (length d.plan.nodes)
  pub root : out ≡ more d.plan.root
  pub later : failing (is_from (reached last (closes d.plan.nodes d.plan.root last))) out ≡ 0
  pub defined : overflow source d.plan.nodes p ≡ None

-- of whatever the stages took their steps before, with the edges that are given now the step at p gives this plan and this
-- answer: where the edges come at the last punctuation or later, and with those before stand for the sources below p
abbrev pub GivesOn : List (List ℕ) → ℕ → (ℕ → List Edge) → DataflowView → DataflowView → List Edge → Type 0
GivesOn texts p given d after out = (last : ℕ) (old lists : ℕ → List Edge) (source : Sources) →
    AreDistinct texts → Flows texts last old lists d → last < p →
    SourcesStandRead texts p source (longer old given) → AreFrom last given → HasFlowed texts last p source old given lists after out

-- and so the overflow at p is that of the node of that number, at that time
abbrev pub OverflowsAt : List (List ℕ) → ℕ → (ℕ → List Edge) → DataflowView → ℕ → ℕ → Type 0
OverflowsAt texts p given d node time = (last : ℕ) (old lists : ℕ → List Edge) (source : Sources) →
    AreDistinct texts → Flows texts last old lists d → last < p →
    SourcesStandRead texts p source (longer old given) → AreFrom last given →
    overflow source d.plan.nodes p ≡ Some (record { node = node; time = time })

-- a pair for each stage, in order, from the number i on: its number, and how many entries it keeps, or the greatest number
-- that there is room for. Of a Source, and a Delay over it that keeps 3, from 0 on: (0, 0) and (1, 3)
abbrev pub held_from : ℕ → List Stage → List (ℕ × ℕ)
held_from i [] = []
held_from i (s ∷ stages) = (i, min (entries_in s) (2 ^ 64 - 1)) ∷ held_from (suc i) stages
