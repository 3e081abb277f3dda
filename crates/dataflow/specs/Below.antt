-- The nodes of a plan below one, as those below a node that failed: what their stages keep, and what a further step of them gives.
use Rattle.std.specs.Prelude.{◌≡◌, ℕ, ◌<◌, ◌≤◌, false, Some, None, List, [], length, get_or, slice_get}
use Rattle.tw_rows.specs.declared.edge.Edge.{Edge}
use Rattle.edge_history.specs.Order.{is_from, failing}
use Rattle.edge_stream.specs.Listing.{EdgeListView}
use Rattle.plan_model.specs.declared.node.Node.{Node}
use Rattle.plan_model.specs.IsPlan.{PlanParts, kinds_at}
use Rattle.plan_model.specs.Meaning.{Sources, closes, left_of, right_of}
use Rattle.plan_laws.specs.Places.{AreDistinct}
use Rattle.plan_laws.specs.Standing.{SourcesStandRead, AllStandRead}
use Rattle.dataflow.specs.declared.stage.Stage.{Stage}
use Rattle.edge_stream.specs.Lists.{longer}
use Rattle.dataflow.specs.Lists.{AreFrom, IsListOf}
use Rattle.dataflow.specs.Stages.{reached, left_closing, right_closing, left_kinds, right_kinds, IsReady, StageKeeps}
use Rattle.dataflow.specs.Slices.{overflow_under}
use Rattle.dataflow.specs.Flows.{DataflowView, CanStep, Flows}

-- each of the first n stages can take a step, once the punctuation `last` was worked through
pub record AreReadyBelow (texts : List (List ℕ)) (last n : ℕ) (plan : PlanParts) (stages : List Stage) (capacity : ℕ) : Type 0 where
  pub count : length stages ≡ length plan.nodes
  pub room : 1 ≤ capacity
  pub ready : (i : ℕ) (m : Node) (s : Stage) → i < n → slice_get plan.nodes i ≡ Some m → slice_get stages i ≡ Some s →
      IsReady texts capacity (left_kinds plan m) (right_kinds plan m) m s
      (reached last (left_closing plan.nodes last m)) (reached last (right_closing plan.nodes last m))

-- and keeps what it read of `given` and `lists`, and answered
pub record KeepBelow (texts : List (List ℕ)) (last n : ℕ) (given lists : ℕ → List Edge) (plan : PlanParts) (stages : List Stage)
    (capacity : ℕ) : Type 0 where
  pub can : AreReadyBelow texts last n plan stages capacity
  pub kept : (i : ℕ) (m : Node) (s : Stage) → i < n → slice_get plan.nodes i ≡ Some m → slice_get stages i ≡ Some s →
      StageKeeps texts m s (reached last (left_closing plan.nodes last m)) (reached last (right_closing plan.nodes last m))
      (left_of [] given lists m) (right_of [] lists m) (lists i)

-- so much of `CanStep` and of `Flows` as is about the first n nodes: the others, and the fault of a step, may be as they like
abbrev pub CanStepBelow : List (List ℕ) → ℕ → ℕ → DataflowView → Type 0
CanStepBelow texts last n d = AreReadyBelow texts last n d.plan d.stages d.capacity

abbrev pub FlowsBelow : List (List ℕ) → ℕ → ℕ → (ℕ → List Edge) → (ℕ → List Edge) → DataflowView → Type 0
FlowsBelow texts last n given lists d = KeepBelow texts last n given lists d.plan d.stages d.capacity

-- the first n stages took steps of something before, with which these edges stand for sources below p
pub record HasPastBelow (texts : List (List ℕ)) (p n : ℕ) (given : ℕ → List Edge) (d : DataflowView) : Type 0 where
  pub last : ℕ
  pub old : ℕ → List Edge
  pub lists : ℕ → List Edge
  pub source : Sources
  pub distinct : AreDistinct texts
  pub flows : FlowsBelow texts last n old lists d
  pub later : last < p
  pub stand : SourcesStandRead texts p source (longer old given)
  pub from : AreFrom last given

-- the first n nodes may take a step at the punctuation p with these edges, given for each stream
pub record MayStepBelow (texts : List (List ℕ)) (p n : ℕ) (given : ℕ → List Edge) (d : DataflowView) : Type 0 where
  pub last : ℕ
  pub can : CanStepBelow texts last n d
  pub later : last < p
  pub past : d.thawed ≡ false → HasPastBelow texts p n given d

-- whatever the first n stages took their steps of before, where the edges that are given now come at the last punctuation or
-- later, and with those before stand for sources below p
abbrev pub WhateverBelow : List (List ℕ) → ℕ → ℕ → (ℕ → List Edge) → DataflowView →
    (ℕ → (ℕ → List Edge) → (ℕ → List Edge) → Sources → Type 0) → Type 0
WhateverBelow texts p n given d P = (last : ℕ) (old lists : ℕ → List Edge) (source : Sources) → AreDistinct texts →
    FlowsBelow texts last n old lists d → last < p → SourcesStandRead texts p source (longer old given) → AreFrom last given →
    P last old lists source

-- none of the first n nodes overflows by p
abbrev pub UnderNone : List (List ℕ) → ℕ → ℕ → (ℕ → List Edge) → DataflowView → Type 0
UnderNone texts p n given d = WhateverBelow texts p n given d (λ last old lists source. overflow_under source d.plan.nodes p n ≡ None)

-- the lowest of them that does is the node of that number, at that time
abbrev pub OverflowsUnder : List (List ℕ) → ℕ → ℕ → (ℕ → List Edge) → DataflowView → ℕ → ℕ → Type 0
OverflowsUnder texts p n given d node time = WhateverBelow texts p n given d (λ last old lists source.
    overflow_under source d.plan.nodes p n ≡ Some (record { node = node; time = time }))

-- what the first n stages took their steps of after a step at p: the edges that were given then too, and more of each node
pub record FlowBelow (texts : List (List ℕ)) (p n : ℕ) (old given lists : ℕ → List Edge) (d : DataflowView) : Type 0 where
  pub more : ℕ → List Edge
  pub flows : FlowsBelow texts p n (longer old given) (longer lists more) d

-- a step at p failed at the node of that number, and the nodes below it took theirs
pub record StopsAt (texts : List (List ℕ)) (p : ℕ) (given : ℕ → List Edge) (node : ℕ) (d after : DataflowView) : Type 0 where
  pub low : node < length d.plan.nodes
  pub can : (last : ℕ) → CanStep texts last d → last < p → CanStepBelow texts p node after
  pub flow : (last : ℕ) (old lists : ℕ → List Edge) (source : Sources) → AreDistinct texts → Flows texts last old lists d → last < p →
      SourcesStandRead texts p source (longer old given) → AreFrom last given → FlowBelow texts p node old given lists after

-- the same of a step of the first n nodes alone
pub record StopsUnder (texts : List (List ℕ)) (p n : ℕ) (given : ℕ → List Edge) (node : ℕ) (d after : DataflowView) : Type 0 where
  pub low : node < n
  pub can : (last : ℕ) → CanStepBelow texts last n d → last < p → CanStepBelow texts p node after
  pub flow : WhateverBelow texts p n given d (λ last old lists source. FlowBelow texts p node old given lists after)

-- the first n nodes took their step at p: `made` are the lists of those that are read later, of which the root's is one
pub record HasFlowedBelow (texts : List (List ℕ)) (last p n : ℕ) (source : Sources) (old given lists : ℕ → List Edge) (d : DataflowView)
    (made : List EdgeListView) : Type 0 where
  pub more : ℕ → List Edge
  pub flows : FlowsBelow texts p n (longer old given) (longer lists more) d
  pub stand : AllStandRead texts d.plan.nodes p source (longer lists more) n
  pub later : (j : ℕ) → j < n → failing (is_from (reached last (closes d.plan.nodes j last))) (more j) ≡ 0
  pub defined : overflow_under source d.plan.nodes p n ≡ None
  pub root : (l : EdgeListView) → d.plan.root < n → (get_or made d.plan.root l).edges ≡ more d.plan.root

abbrev pub GivesBelow : List (List ℕ) → ℕ → ℕ → (ℕ → List Edge) → DataflowView → DataflowView → List EdgeListView → Type 0
GivesBelow texts p n given d after made = WhateverBelow texts p n given d (λ last old lists source.
    HasFlowedBelow texts last p n source old given lists after made)

-- and can take a further one
abbrev pub StepsBelow : List (List ℕ) → ℕ → ℕ → DataflowView → DataflowView → Type 0
StepsBelow texts p n d after = (last : ℕ) → CanStepBelow texts last n d → last < p → CanStepBelow texts p n after

-- there is a list for each of the first n nodes, and that of the root is one of its columns
pub record AreMade (texts : List (List ℕ)) (capacity : ℕ) (plan : PlanParts) (n : ℕ) (made : List EdgeListView) : Type 0 where
  pub count : length made ≡ n
  pub root : (l : EdgeListView) → plan.root < n → IsListOf texts capacity (kinds_at plan.schemas plan.root) (get_or made plan.root l)
