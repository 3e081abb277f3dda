-- Stages by the case of their node: when one can take a step, and what it keeps of the edges that came in and were answered.
use Rattle.std.specs.Prelude.{◌≡◌, ℕ, ◌≤◌, true, zero, suc, Option, Some, List, [], ◌++◌, slice_get}
use Rattle.tw_rows.specs.Instant.{inf}
use Rattle.tw_rows.specs.declared.edge.Edge.{Edge}
use Rattle.tw_rows.specs.declared.kind.CellKind.{CellKind}
use Rattle.edge_history.specs.Order.{is_below, is_from, failing, IsHistory}
use Rattle.edge_stream.specs.Listing.{EdgeListView, cells_of}
use Rattle.plan_model.specs.declared.node.Node.{Node}
use Rattle.plan_model.specs.IsPlan.{PlanParts, kinds_of_stream, kinds_at, node_kinds}
use Rattle.plan_model.specs.Meaning.{closes, node_closes, left_of, right_of}
use Rattle.plan_laws.specs.Places.{AreDistinct, EdgesArePlaced}
use Rattle.where_select.specs.Made.{IsMade}
use Rattle.where_select.specs.Stages.{IsStageOf}
pub use Rattle.edge_stream.specs.Standing.{may_keep}
use Rattle.edge_stream.specs.Steps.{MayCome}
use Rattle.lifetime_ops.specs.Operating.{standing as life_standing, entries as life_entries, IsKept as IsLifeKept}
use Rattle.lifetime_ops.specs.ExtendOperating.{standing as extend_standing, entries as extend_entries, IsKept as IsExtendKept}
use Rattle.union_clip.specs.UnionOperating.{standing as union_standing, entries as union_entries, IsKept as IsUnionKept}
use Rattle.lifetime_ops.specs.Saving.{IsOpening as IsLifeOpening}
use Rattle.union_clip.specs.Saving.{IsOpening as IsUnionOpening}
use Rattle.lifetime_ops.specs.ExtendSaving.{IsOpening as IsExtendOpening}
use Rattle.snapshot_agg.specs.Keeping.{IsOpening as IsGroupOpening}
use Rattle.snapshot_agg.specs.declared.grouped.Grouped.{Grouped}
use Rattle.shard_apply.specs.Whole.{standing_in, entries_in as entries_of_shards, AreNew, ShardsKeep}
use Rattle.follow_op.specs.Operating.{standing as follow_standing, entries as follow_entries, IsNew as IsFollowNew, IsKept as IsFollowKept}
use Rattle.lifetime_ops.specs.declared.change.Change.{Change}
use Rattle.lifetime_ops.specs.declared.change.Change.TheVariants.{Delay, Hop, Duration, Mean}
use Rattle.snapshot_agg.specs.Operating.{standing as group_standing, entries as group_entries, IsKept as IsGroupKept}
use Rattle.sweep_sides.specs.Operating.{standing as swept_standing, entries as swept_entries, IsNew as IsSweptNew, IsKept as IsSweptKept}
use Rattle.dataflow.specs.declared.stage.Stage.{Stage}
use Rattle.dataflow.specs.declared.stage.Stage.TheVariants.{Rows, Life, Union, Extend, Join, Group, Anti, Session, Clip, Coalesce, Follow, Top}
use Rattle.plan_model.specs.declared.node.Node.TheVariants.{Delay as DelayNode, Hop as HopNode, Duration as DurationNode, Mean as MeanNode}
use Rattle.dataflow.specs.Operating.{CanOperate}
pub use Rattle.dataflow.specs.Operating.{first_undefined_read}

-- up to where a side is closed once the punctuation `last` was worked through, which closes it up to c: 0 as long as there
-- was none, though a Delay by 5 is closed up to 5 at the punctuation 0
abbrev pub reached : ℕ → ℕ → ℕ
reached zero c = 0
reached (suc last) c = c

-- the closings at a punctuation of what a node reads on the left and on the right
abbrev pub left_closing : List Node → ℕ → Node → ℕ
left_closing nodes p n = left_of inf (λ s. p) (λ k. closes nodes k p) n

abbrev pub right_closing : List Node → ℕ → Node → ℕ
right_closing nodes p n = right_of inf (λ k. closes nodes k p) n

-- how the columns are stored that a node reads on the left and on the right. A source reads those of its stream
abbrev pub left_kinds : PlanParts → Node → List CellKind
left_kinds plan n = left_of [] (kinds_of_stream plan.streams) (kinds_at plan.schemas) n

abbrev pub right_kinds : PlanParts → Node → List CellKind
right_kinds plan n = right_of [] (kinds_at plan.schemas) n

-- the edges came to a side that is closed up to x. A start at 3 may have come to one that is closed up to 4, and to one closed up
-- to 3 it may not
pub record HasCome (texts : List (List ℕ)) (x : ℕ) (h : List Edge) : Type 0 where
  pub low : x ≤ inf
  pub history : IsHistory h
  pub below : failing (is_below x) h ≡ 0
  pub placed : EdgesArePlaced texts h

-- the edges l may come behind those that came up to x, when the side is closed up to u. Behind a start at 3, on a side that was
-- closed up to 4 and is closed up to 6 now, its end at 5 may come, and an end at 6 may not
pub record MayComeUpTo (texts : List (List ℕ)) (x u : ℕ) (came l : List Edge) : Type 0 where
  pub low : u ≤ inf
  pub may : MayCome texts x came l
  pub below : failing (is_below u) (came ++ l) ≡ 0

-- the stage can take a step of the node, over lists of columns that are stored as `left` and `right`, in batches of the
-- capacity, whose texts are read from the table; its sides are closed up to x and y
abbrev pub IsReady : List (List ℕ) → ℕ → List CellKind → List CellKind → Node → Stage → ℕ → ℕ → Type 0
IsReady texts capacity left right n (Rows s) x y = IsStageOf texts capacity left n s
IsReady texts capacity left right n (Life o) x y = CanOperate capacity left right n (life_standing o) x y
IsReady texts capacity left right n (Union o) x y = CanOperate capacity left right n (union_standing o) x y
IsReady texts capacity left right n (Extend o) x y = CanOperate capacity left right n (extend_standing o) x y
IsReady texts capacity left right n (Join o) x y = CanOperate capacity left right n (standing_in swept_standing o) x y
IsReady texts capacity left right n (Group o) x y = CanOperate capacity left right n (standing_in group_standing o) x y
IsReady texts capacity left right n (Session o) x y = CanOperate capacity left right n (standing_in swept_standing o) x y
IsReady texts capacity left right n (Anti o) x y = CanOperate capacity left right n (standing_in swept_standing o) x y
IsReady texts capacity left right n (Clip o) x y = CanOperate capacity left right n (standing_in swept_standing o) x y
IsReady texts capacity left right n (Coalesce o) x y = CanOperate capacity left right n (swept_standing o) x y
IsReady texts capacity left right n (Follow o) x y = CanOperate capacity left right n (follow_standing o) x y
IsReady texts capacity left right n (Top o) x y = CanOperate capacity left right n (swept_standing o) x y

-- the stage can take a step of some node over these two lists, which closes its sides up to u and v
pub record CanTake (texts : List (List ℕ)) (left right : EdgeListView) (s : Stage) (u v : ℕ) : Type 0 where
  pub node : Node
  pub x : ℕ
  pub y : ℕ
  pub ready : IsReady texts left.capacity (cells_of left) (cells_of right) node s x y
  pub left_rises : x ≤ u
  pub right_rises : y ≤ v

-- of the edges hl it made out: of starts with the rows 5 and 20 the second, where the node is `where v > 10`
pub record HasMade (texts : List (List ℕ)) (n : Node) (x : ℕ) (hl out : List Edge) : Type 0 where
  pub came : HasCome texts x hl
  pub made : IsMade texts n hl out

-- the stage is as it can be once hl and hr came in on its sides, which are closed up to x and y, and `out` was answered. A
-- stage that keeps nothing of one step for the next only has to have made out of hl; an operator keeps what its trait says, and
-- each shard of a node does so of its edges
abbrev pub StageKeeps : List (List ℕ) → Node → Stage → ℕ → ℕ → List Edge → List Edge → List Edge → Type 0
StageKeeps texts n (Rows s) x y hl hr out = HasMade texts n x hl out
StageKeeps texts n (Life o) x y hl hr out = IsLifeKept o texts hl hr out
StageKeeps texts n (Union o) x y hl hr out = IsUnionKept o texts hl hr out
StageKeeps texts n (Extend o) x y hl hr out = IsExtendKept o texts hl hr out
StageKeeps texts n (Join o) x y hl hr out = ShardsKeep swept_standing IsSweptKept o texts hl hr out
StageKeeps texts n (Group o) x y hl hr out = ShardsKeep group_standing IsGroupKept o texts hl hr out
StageKeeps texts n (Session o) x y hl hr out = ShardsKeep swept_standing IsSweptKept o texts hl hr out
StageKeeps texts n (Anti o) x y hl hr out = ShardsKeep swept_standing IsSweptKept o texts hl hr out
StageKeeps texts n (Clip o) x y hl hr out = ShardsKeep swept_standing IsSweptKept o texts hl hr out
StageKeeps texts n (Coalesce o) x y hl hr out = IsSweptKept o texts hl hr out
StageKeeps texts n (Follow o) x y hl hr out = IsFollowKept o texts hl hr out
StageKeeps texts n (Top o) x y hl hr out = IsSweptKept o texts hl hr out

-- what is asked of what was kept and of two lists, so that a step keeps it: the lists come on the sides that the stage is
-- closed up to, and close them up to u and v
pub record Takes (texts : List (List ℕ)) (left right : EdgeListView) (s : Stage) (u v : ℕ) (n : Node) (x y : ℕ) (hl hr out : List Edge) : Type 0 where
  pub ready : IsReady texts left.capacity (cells_of left) (cells_of right) n s x y
  pub kept : StageKeeps texts n s x y hl hr out
  pub on_left : MayComeUpTo texts x u hl left.edges
  pub on_right : MayComeUpTo texts y v hr right.edges

-- whatever the stage kept it keeps with the new lists and the answer, which comes at the node's last closing or later
abbrev pub KeepsOn : List (List ℕ) → EdgeListView → EdgeListView → Stage → Stage → ℕ → ℕ → EdgeListView → Type 0
KeepsOn texts left right old new u v answer = (n : Node) (x y : ℕ) (hl hr out : List Edge) → Takes texts left right old u v n x y hl hr out →
    StageKeeps texts n new u v (hl ++ left.edges) (hr ++ right.edges) (out ++ answer.edges) × (failing (is_from (node_closes n x y)) answer.edges ≡ 0)

-- over what came in with the new lists the node is undefined first at that instant below its new closing, or at none
abbrev pub IsUndefinedAt : List (List ℕ) → EdgeListView → EdgeListView → Stage → ℕ → ℕ → Option ℕ → Type 0
IsUndefinedAt texts left right old u v found = (n : Node) (x y : ℕ) (hl hr out : List Edge) →
    AreDistinct texts → Takes texts left right old u v n x y hl hr out →
    first_undefined_read texts n (hl ++ left.edges) (node_closes n u v) ≡ found

-- the stage can take a further step of whatever node it could take one of, and the answer is of that node's columns
pub record StaysReady (texts : List (List ℕ)) (left right : EdgeListView) (old new : Stage) (u v : ℕ) : Type 0 where
  pub stays : (n : Node) (x y : ℕ) → IsReady texts left.capacity (cells_of left) (cells_of right) n old x y →
      IsReady texts left.capacity (cells_of left) (cells_of right) n new u v

abbrev pub IsAnswerOf : List (List ℕ) → EdgeListView → EdgeListView → Stage → EdgeListView → Type 0
IsAnswerOf texts left right old answer = (n : Node) (x y : ℕ) → IsReady texts left.capacity (cells_of left) (cells_of right) n old x y →
    cells_of answer ≡ node_kinds n (cells_of left) (cells_of right)

-- how many entries the stage keeps for later steps: as many as its operator, as all its shards, and none for a Source, a Where
-- or a Select. An Extend that carries 2 edges while 3 ends wait keeps 5
abbrev pub entries_in : Stage → ℕ
entries_in (Rows s) = 0
entries_in (Life o) = life_entries o
entries_in (Union o) = union_entries o
entries_in (Extend o) = extend_entries o
entries_in (Join o) = entries_of_shards swept_entries o
entries_in (Group o) = entries_of_shards group_entries o
entries_in (Session o) = entries_of_shards swept_entries o
entries_in (Anti o) = entries_of_shards swept_entries o
entries_in (Clip o) = entries_of_shards swept_entries o
entries_in (Coalesce o) = swept_entries o
entries_in (Follow o) = follow_entries o
entries_in (Top o) = swept_entries o

-- a step of the stage failed, which stood as `old` before: a Source, a Where or a Select is as it was, and an operator says so
abbrev pub HasStopped : Stage → Stage → Type 0
HasStopped old (Rows s) = old ≡ Rows s
HasStopped old (Life o) = (life_standing o).has_failed ≡ true
HasStopped old (Union o) = (union_standing o).has_failed ≡ true
HasStopped old (Extend o) = (extend_standing o).has_failed ≡ true
HasStopped old (Join o) = o.failed ≡ true
HasStopped old (Group o) = o.failed ≡ true
HasStopped old (Session o) = o.failed ≡ true
HasStopped old (Anti o) = o.failed ≡ true
HasStopped old (Clip o) = o.failed ≡ true
HasStopped old (Coalesce o) = (swept_standing o).has_failed ≡ true
HasStopped old (Follow o) = (follow_standing o).has_failed ≡ true
HasStopped old (Top o) = (swept_standing o).has_failed ≡ true

-- the stage keeps no more entries than its node may, whatever came in and was answered
abbrev pub KeepsAtMost : ℕ → Stage → Type 0
KeepsAtMost count s = (texts : List (List ℕ)) (capacity : ℕ) (left right : List CellKind) (n : Node) (x y : ℕ) (hl hr out : List Edge) →
    IsReady texts capacity left right n s x y → StageKeeps texts n s x y hl hr out → count ≤ may_keep n x y hl hr

-- the operator of a Group stands as it was made
abbrev pub IsNewGroup : Grouped → Type 0
IsNewGroup o = IsGroupOpening o.groups.rows.rows o.running o.waiting o.left_to o.right_to o.failed

-- the stage stands as it was made: nothing is kept, no side is closed, and no step failed
abbrev pub StandsAsMade : Stage → Type 0
StandsAsMade (Rows s) = Unit {0}
StandsAsMade (Life o) = IsLifeOpening o.carried.edges o.left_to o.right_to o.failed
StandsAsMade (Union o) = IsUnionOpening o.left.edges o.right.edges o.left_to o.right_to o.failed
StandsAsMade (Extend o) = IsExtendOpening o.carried.edges o.ends o.left_to o.right_to o.failed
StandsAsMade (Join o) = AreNew IsSweptNew swept_standing o
StandsAsMade (Group o) = AreNew IsNewGroup group_standing o
StandsAsMade (Session o) = AreNew IsSweptNew swept_standing o
StandsAsMade (Anti o) = AreNew IsSweptNew swept_standing o
StandsAsMade (Clip o) = AreNew IsSweptNew swept_standing o
StandsAsMade (Coalesce o) = IsSweptNew o
StandsAsMade (Follow o) = IsFollowNew o
StandsAsMade (Top o) = IsSweptNew o

-- the stage stands as it was made for the node of the plan: it can take a first step, and nothing came in yet
pub record StartsFor (texts : List (List ℕ)) (capacity : ℕ) (plan : PlanParts) (n : Node) (s : Stage) : Type 0 where
  pub ready : IsReady texts capacity (left_kinds plan n) (right_kinds plan n) n s 0 0
  pub opens : StageKeeps texts n s 0 0 [] [] []
  pub made : StandsAsMade s

-- so is the node of this number in the plan
abbrev pub AtNode : PlanParts → ℕ → (Node → Type 0) → Type 0
AtNode plan i P = (n : Node) → slice_get plan.nodes i ≡ Some n → P n

-- the stage stands as it was made for the node of this number, whatever the table of texts
abbrev pub StartsAt : PlanParts → ℕ → ℕ → Stage → Type 0
StartsAt plan capacity i s = (texts : List (List ℕ)) → AtNode plan i (λ n. StartsFor texts capacity plan n s)

-- the node that makes this change, over the child of that number
abbrev pub changing : ℕ → Change → Node
changing of (Delay by) = DelayNode of by
changing of (Hop size period) = HopNode of size period
changing of (Duration by) = DurationNode of by
changing of (Mean at) = MeanNode of at
