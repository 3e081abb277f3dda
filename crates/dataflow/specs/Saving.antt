-- What the stages of a plan save, node by node and shard by shard, and what is taken up of it again.
use Rattle.std.specs.Prelude.{◌≡◌, ℕ, ◌<◌, ◌≤◌, min, true, false, Option, Some, List, [], ◌∷◌, length, map, slice_get, slice_index_or, All}
use Rattle.std.specs.List.{range_with_len}
use Rattle.tw_rows.specs.Bag.{total, SameBag}
use Rattle.tw_rows.specs.declared.edge.Edge.{Edge}
use Rattle.tw_rows.specs.declared.kind.CellKind.{CellKind}
use Rattle.key_nodes.specs.Shards.{over_shards}
use Rattle.edge_history.specs.Order.{failing, is_below, Rises, IsHistory}
use Rattle.edge_stream.specs.Shards.{edges_in_shard}
use Rattle.edge_stream.specs.declared.saved.PartRow.{PartRow}
use Rattle.edge_stream.specs.declared.saved.PartRow.TheVariants.{Left, Right, Own, KeyFirst}
use Rattle.edge_stream.specs.declared.saved.SavedEntry.{SavedEntry}
use Rattle.edge_stream.specs.Entries.{part_of}
use Rattle.plan_model.specs.declared.node.Node.{Node}
use Rattle.plan_model.specs.declared.node.Node.TheVariants.{Union, Delay, Hop, Duration, Extend, Mean, Coalesce, Top, Follow}
use Rattle.plan_model.specs.declared.node.Node.TheVariants.{Session, Clip, Group, Join, Anti}
use Rattle.plan_model.specs.IsPlan.{PlanParts, node_kinds}
use Rattle.plan_model.specs.Keys.{paired_row}
use Rattle.plan_model.specs.Meaning.{left_of, right_of, node_closes}
use Rattle.plan_laws.specs.Places.{EdgesArePlaced}
use Rattle.plan_laws.specs.Shards.{is_keyed, left_key_of, right_key_of}
use Rattle.sweep_laws.specs.Joining.{JoinKeeps}
use Rattle.sweep_laws.specs.Saving.{rows_of}
use Rattle.frozen_state.specs.Forms.{part_rows, node_rows, shards_of}
use Rattle.frozen_state.specs.Formed.{IsStoredIn}
use Rattle.edge_stream.specs.Standing.{Standing, Keeping, Implies, AreStoredAs}
use Rattle.lifetime_ops.specs.Saving.{LifeSound, LifeResumes}
use Rattle.lifetime_ops.specs.ExtendSaving.{ExtendSound, ExtendResumes}
use Rattle.union_clip.specs.Saving.{UnionSound, UnionResumes}
use Rattle.sweep_sides.specs.Sweeping.{Keeping as SweepKeeping}
use Rattle.sweep_sides.specs.Sweepers.{SweptResumes}
use Rattle.temporal_join.specs.States.{JoinSound}
use Rattle.temporal_join.specs.Joined.{join_meets}
use Rattle.anti_join.specs.States.{AntiSound}
use Rattle.anti_join.specs.Holding.{AntiKeeps}
use Rattle.union_clip.specs.States.{ClipSound}
use Rattle.union_clip.specs.Holding.{ClipKeeps}
use Rattle.session_window.specs.States.{SessionSound}
use Rattle.session_window.specs.Holding.{SessionKeeps}
use Rattle.end_queue.specs.Pending.{Pending}
use Rattle.snapshot_agg.specs.Saving.{GroupSound, GroupResumes}
use Rattle.coalesce_op.specs.States.{CoalesceSound}
use Rattle.coalesce_op.specs.Holding.{CoalesceKeeps}
use Rattle.follow_op.specs.States.{FollowSound, FollowResumes}
use Rattle.outer_top.specs.States.{TopSound, TopKeeps}
use Rattle.shard_apply.specs.Saving.{AreRowsOf, AreSound, AreOwn, ShardsResume}
use Rattle.shard_apply.specs.Whole.{Whole, standing_in, AreInStep, ShardsKeep}
use Rattle.dataflow.specs.declared.stage.Stage.{Stage}
use Rattle.dataflow.specs.Operating.{CanOperate, over_two}
use Rattle.dataflow.specs.Shards.{shards_in}
use Rattle.dataflow.specs.Stages.{reached, left_closing, right_closing, left_kinds, right_kinds, IsReady, StageKeeps, HasMade, entries_in}

-- the entries can be what an operator of the node keeps, over columns that are stored as `left`, `right` and `own`, with sides that
-- are closed up to x and y. Of an Extend whose left side is closed up to 7 an end at 9 can be one, and an end at 6 not. A Source,
-- a Where and a Select keep none
abbrev pub NodeSound : List CellKind → List CellKind → List CellKind → Node → List SavedEntry → ℕ → ℕ → Type 0
NodeSound left right own (Union a b) saved x y = UnionSound left right x y saved
NodeSound left right own (Delay of by) saved x y = LifeSound (Delay of by) left x saved
NodeSound left right own (Hop of size period) saved x y = LifeSound (Hop of size period) left x saved
NodeSound left right own (Duration of by) saved x y = LifeSound (Duration of by) left x saved
NodeSound left right own (Mean of at) saved x y = LifeSound (Mean of at) left x saved
NodeSound left right own (Extend of by) saved x y = ExtendSound left x saved
NodeSound left right own (Coalesce of) saved x y = CoalesceSound left x saved
NodeSound left right own (Top of key by count) saved x y = TopSound left x saved
NodeSound left right own (Follow a b left_key right_key within) saved x y = FollowSound left right (min x y) saved
NodeSound left right own (Session of timeout key) saved x y = SessionSound left x saved
NodeSound left right own (Clip a b left_key right_key) saved x y = ClipSound left right (min x y) saved
NodeSound left right own (Group of key aggs) saved x y = GroupSound left own x saved
NodeSound left right own (Join a b left_key right_key) saved x y = JoinSound left right (min x y) saved
NodeSound left right own (Anti a b left_key right_key) saved x y = AntiSound left_key left right (min x y) saved
NodeSound left right own n saved x y = saved ≡ []

-- the entries of a sweep's node are what it keeps up to a time, of the edges that came in and were answered, by its keys: those of
-- a Join the rows of both sides that began before it, and the edges that wait from it on. Those of a Session are so with some
-- queue of the ends of its keys
abbrev pub JoinSaved : List ℕ → List ℕ → List SavedEntry → SweepKeeping
JoinSaved left_key right_key saved to hl hr out =
    JoinKeeps (join_meets left_key right_key) (paired_row right_key) (rows_of (part_of 0 saved)) (rows_of (part_of 1 saved))
    (part_of 2 saved) (part_of 3 saved) to hl hr out

abbrev pub AntiSaved : List ℕ → List ℕ → List SavedEntry → SweepKeeping
AntiSaved left_key right_key saved to hl hr out =
    AntiKeeps left_key right_key (rows_of (part_of 0 saved)) (rows_of (part_of 1 saved)) (rows_of (part_of 4 saved))
    (part_of 2 saved) (part_of 3 saved) to hl hr out

abbrev pub ClipSaved : List ℕ → List ℕ → List SavedEntry → SweepKeeping
ClipSaved left_key right_key saved to hl hr out =
    ClipKeeps left_key right_key (rows_of (part_of 0 saved)) (part_of 1 saved) (part_of 2 saved) to hl hr out

abbrev pub CoalesceSaved : List SavedEntry → SweepKeeping
CoalesceSaved saved to hl hr out = CoalesceKeeps (rows_of (part_of 0 saved)) (part_of 1 saved) to hl out

abbrev pub TopSaved : List ℕ → ℕ → ℕ → List SavedEntry → SweepKeeping
TopSaved key by count saved to hl hr out =
    TopKeeps key by count (rows_of (part_of 0 saved)) (part_of 1 saved) (rows_of (part_of 2 saved)) to hl out

pub record SessionSaved (key : List ℕ) (timeout : ℕ) (saved : List SavedEntry) (to : ℕ) (hl hr out : List Edge) : Type 0 where
  pub ends : List Pending
  pub kept : SessionKeeps key timeout (rows_of (part_of 0 saved)) ends (part_of 1 saved) to hl out

-- the entries are what an operator of the node keeps once hl and hr came in, with places in the table, and `out` was answered. Of
-- a Delay by 5 over a start at 3, closed up to 4, the entry is the edge that it tells from 8 on
abbrev pub NodeResumes : List (List ℕ) → List CellKind → List CellKind → List CellKind → Node → List SavedEntry → ℕ → ℕ →
    List Edge → List Edge → List Edge → Type 0
NodeResumes texts left right own (Union a b) saved x y hl hr out = UnionResumes left right texts x y saved hl hr out
NodeResumes texts left right own (Delay of by) saved x y hl hr out = LifeResumes (Delay of by) left texts x y saved hl hr out
NodeResumes texts left right own (Hop of size period) saved x y hl hr out = LifeResumes (Hop of size period) left texts x y saved hl hr out
NodeResumes texts left right own (Duration of by) saved x y hl hr out = LifeResumes (Duration of by) left texts x y saved hl hr out
NodeResumes texts left right own (Mean of at) saved x y hl hr out = LifeResumes (Mean of at) left texts x y saved hl hr out
NodeResumes texts left right own (Extend of by) saved x y hl hr out = ExtendResumes by left texts x y saved hl hr out
NodeResumes texts left right own (Coalesce of) saved x y hl hr out =
    SweptResumes (Coalesce of) (CoalesceSound left x saved) (CoalesceSaved saved) left right x y texts hl hr out
NodeResumes texts left right own (Top of key by count) saved x y hl hr out =
    SweptResumes (Top of key by count) (TopSound left x saved) (TopSaved key by count saved) left right x y texts hl hr out
NodeResumes texts left right own (Follow a b left_key right_key within) saved x y hl hr out =
    FollowResumes left_key right_key within left right texts x y saved hl hr out
NodeResumes texts left right own (Session of timeout key) saved x y hl hr out =
    SweptResumes (Session of timeout key) (SessionSound left x saved) (SessionSaved key timeout saved) left right x y texts hl hr out
NodeResumes texts left right own (Clip a b left_key right_key) saved x y hl hr out =
    SweptResumes (Clip a b left_key right_key) (ClipSound left right (min x y) saved) (ClipSaved left_key right_key saved)
    left right x y texts hl hr out
NodeResumes texts left right own (Group of key aggs) saved x y hl hr out = GroupResumes left own key aggs texts x saved hl hr out
NodeResumes texts left right own (Join a b left_key right_key) saved x y hl hr out =
    SweptResumes (Join a b left_key right_key) (JoinSound left right (min x y) saved) (JoinSaved left_key right_key saved)
    left right x y texts hl hr out
NodeResumes texts left right own (Anti a b left_key right_key) saved x y hl hr out =
    SweptResumes (Anti a b left_key right_key) (AntiSound left_key left right (min x y) saved) (AntiSaved left_key right_key saved)
    left right x y texts hl hr out
NodeResumes texts left right own n saved x y hl hr out = (saved ≡ []) × HasMade texts n x hl out

-- the same of an operator that stands so
abbrev pub StandingSound : Standing → List SavedEntry → ℕ → ℕ → Type 0
StandingSound s saved x y = NodeSound s.left_kinds s.right_kinds s.own_kinds s.node saved x y

abbrev pub StandingResumes : Standing → List SavedEntry → ℕ → ℕ → Keeping
StandingResumes s saved x y texts hl hr out = NodeResumes texts s.left_kinds s.right_kinds s.own_kinds s.node saved x y hl hr out

-- and of a node that reads columns that are stored so
abbrev pub IsSoundOf : List CellKind → List CellKind → Node → List SavedEntry → ℕ → ℕ → Type 0
IsSoundOf left right n saved x y = NodeSound left right (node_kinds n left right) (over_two n) saved x y

abbrev pub IsKeptOf : List CellKind → List CellKind → Node → List SavedEntry → ℕ → ℕ → Keeping
IsKeptOf left right n saved x y texts hl hr out = NodeResumes texts left right (node_kinds n left right) (over_two n) saved x y hl hr out

-- whose row the cells are of the node's entries of that part: of part 1 of a Join a right one, and no one's of part 4
abbrev pub row_in : Node → ℕ → Option PartRow
row_in n part = slice_get (part_rows n) part

-- the entries are of rows of the node's shard of that number, of so many
abbrev pub AreOfShard : ℕ → Node → ℕ → List SavedEntry → Type 0
AreOfShard count n s saved = AreRowsOf (row_in n) count (left_key_of n) (right_key_of n) (range_with_len 0 (length (left_key_of n))) s saved

-- so many lists of entries can be what the node keeps, a list for each shard: of a node with a key each entry is of a row of its
-- shard. Of a Join in 2 shards they are 2, of a Union 1, and of a Where none
pub record IsSavedOf (count : ℕ) (left right : List CellKind) (n : Node) (saved : List (List SavedEntry)) (x y : ℕ) : Type 0 where
  pub many : length saved ≡ count
  pub sound : (s : ℕ) (e : List SavedEntry) → s < count → IsSoundOf left right n (slice_index_or saved s e) x y
  pub own : is_keyed n ≡ true → (s : ℕ) (e : List SavedEntry) → s < count → AreOfShard count n s (slice_index_or saved s e)

-- the list of each shard is what it keeps of the edges of its number; what all of them answered, below c, are the edges `out`, in
-- order. With one shard its edges are all edges
pub record ShardsResumed (count : ℕ) (n : Node) (c : ℕ) (resumes : List SavedEntry → Keeping) (saved : List (List SavedEntry))
    (texts : List (List ℕ)) (hl hr out : List Edge) : Type 0 where
  pub left_history : IsHistory hl
  pub right_history : IsHistory hr
  pub left_placed : EdgesArePlaced texts hl
  pub right_placed : EdgesArePlaced texts hr
  pub outs : ℕ → List Edge
  pub shards : (s : ℕ) (e : List SavedEntry) → s < count → resumes (slice_index_or saved s e) texts
      (edges_in_shard count (left_key_of n) s hl) (edges_in_shard count (right_key_of n) s hr) (outs s)
  pub below : (s : ℕ) → s < count → failing (is_below c) (outs s) ≡ 0
  pub order : Rises 0 out
  pub same : SameBag out (over_shards outs count)

-- the lists are what the node keeps once hl and hr came in and `out` was answered: of a node with a key that of each shard, and else
-- the only list. Of a Where there is none, and `out` is what it makes of hl
pub record IsResumedOf (texts : List (List ℕ)) (count : ℕ) (left right : List CellKind) (n : Node) (saved : List (List SavedEntry)) (x y : ℕ)
    (hl hr out : List Edge) : Type 0 where
  pub many : length saved ≡ count
  pub whole : is_keyed n ≡ false → IsKeptOf left right n (slice_index_or saved 0 []) x y texts hl hr out
  pub keyed : is_keyed n ≡ true →
      ShardsResumed count n (node_closes n x y) (λ e. IsKeptOf left right n e x y) saved texts hl hr out

-- an operator that took up entries can take a step of whatever node it could take one of
pub record StaysAt (old new : Standing) (u v : ℕ) : Type 0 where
  pub stays : (capacity : ℕ) (left right : List CellKind) (n : Node) (x y : ℕ) → CanOperate capacity left right n old x y →
      CanOperate capacity left right n new u v

-- an operator that stands so saved what it keeps, as the only list
pub record SavesAlone (s : Standing) (keeps : Keeping) (sound : List SavedEntry → ℕ → ℕ → Type 0) (resumes : List SavedEntry → ℕ → ℕ → Keeping)
    (row_of_part : ℕ → Option PartRow) (saved : List (List SavedEntry)) : Type 0 where
  pub entries : List SavedEntry
  pub alone : saved ≡ entries ∷ []
  pub is_sound : sound entries s.left_closed s.right_closed
  pub stored : AreStoredAs row_of_part s entries
  pub resumed : Implies keeps (resumes entries s.left_closed s.right_closed)

-- an operator that stood as `old` took up the only list, and keeps what it says
pub record LoadsAlone (old new : Standing) (keeps : Keeping) (sound : List SavedEntry → ℕ → ℕ → Type 0)
    (resumes : List SavedEntry → ℕ → ℕ → Keeping) (saved : List (List SavedEntry)) (u v : ℕ) : Type 0 where
  pub entries : List SavedEntry
  pub alone : saved ≡ entries ∷ []
  pub stays : StaysAt old new u v
  pub is_sound : sound entries u v
  pub resumed : Implies (resumes entries u v) keeps

-- the lists are not one that the operator can take up
abbrev pub RefusesAlone : (List SavedEntry → ℕ → ℕ → Type 0) → List (List SavedEntry) → ℕ → ℕ → Type 0
RefusesAlone sound saved u v = (entries : List SavedEntry) → saved ≡ entries ∷ [] → sound entries u v → ⊥

-- operators side by side saved what each keeps
pub record SavesShards {O : Type 0} (standing : O → Standing) (keeps : O → Keeping) (sound : O → List SavedEntry → ℕ → ℕ → Type 0)
    (resumes : O → List SavedEntry → ℕ → ℕ → Keeping) (row_of_part : ℕ → Option PartRow) (w : Whole O)
    (saved : List (List SavedEntry)) : Type 0 where
  pub in_step : AreInStep (map standing w.operators) w.left_key w.right_key
  pub many : length saved ≡ length w.operators
  pub are_sound : AreSound sound w saved (standing_in standing w).left_closed (standing_in standing w).right_closed
  pub are_own : AreOwn row_of_part w saved
  pub stored : (s : ℕ) (d : O) (e : List SavedEntry) → s < length w.operators →
      AreStoredAs row_of_part (standing (slice_index_or w.operators s d)) (slice_index_or saved s e)
  pub resumed : Implies (ShardsKeep standing keeps w)
      (ShardsResume standing resumes w saved (standing_in standing w).left_closed (standing_in standing w).right_closed)

-- operators side by side that stood as made took up their lists, and keep what these say
pub record LoadsShards {O : Type 0} (standing : O → Standing) (keeps : O → Keeping) (sound : O → List SavedEntry → ℕ → ℕ → Type 0)
    (resumes : O → List SavedEntry → ℕ → ℕ → Keeping) (row_of_part : ℕ → Option PartRow) (old new : Whole O)
    (saved : List (List SavedEntry)) (u v : ℕ) : Type 0 where
  pub in_step : AreInStep (map standing old.operators) old.left_key old.right_key
  pub many : length saved ≡ length old.operators
  pub stays : StaysAt (standing_in standing old) (standing_in standing new) u v
  pub are_sound : AreSound sound old saved u v
  pub are_own : AreOwn row_of_part old saved
  pub resumed : Implies (ShardsResume standing resumes old saved u v) (ShardsKeep standing keeps new)

-- the lists are not such as these operators can take up
pub record RefusesShards {O : Type 0} (standing : O → Standing) (sound : O → List SavedEntry → ℕ → ℕ → Type 0)
    (row_of_part : ℕ → Option PartRow) (w : Whole O) (saved : List (List SavedEntry)) (u v : ℕ) : Type 0 where
  pub in_step : AreInStep (map standing w.operators) w.left_key w.right_key
  pub refused : length saved ≡ length w.operators → AreSound sound w saved u v → AreOwn row_of_part w saved → ⊥

-- no step of the stage failed
pub record CanSave (s : Stage) : Type 0 where
  pub texts : List (List ℕ)
  pub capacity : ℕ
  pub left : List CellKind
  pub right : List CellKind
  pub node : Node
  pub x : ℕ
  pub y : ℕ
  pub ready : IsReady texts capacity left right node s x y

-- how such a row of a node is stored that reads columns which are stored as `left` and `right`: a right one as `right`
abbrev pub row_kinds : List CellKind → List CellKind → Node → PartRow → List CellKind
row_kinds left right n Left = left
row_kinds left right n Right = right
row_kinds left right n Own = node_kinds n left right
row_kinds left right n KeyFirst = node_kinds n left right

-- of whatever node it computes, the cells of each entry that the stage saved are stored as the row of its part
abbrev pub StoresRows : Stage → List (List SavedEntry) → Type 0
StoresRows s saved = (texts : List (List ℕ)) (capacity : ℕ) (left right : List CellKind) (n : Node) (x y : ℕ) →
    IsReady texts capacity left right n s x y → All (All (IsStoredIn (map (row_kinds left right n) (part_rows n)))) saved

-- of whatever node it computes, the stage saved what it keeps
abbrev pub Saves : Stage → List (List SavedEntry) → Type 0
Saves s saved = (texts : List (List ℕ)) (capacity : ℕ) (left right : List CellKind) (n : Node) (x y : ℕ) →
    IsReady texts capacity left right n s x y → IsSavedOf (shards_in s) left right n saved x y
    × ((more : List (List ℕ)) (hl hr out : List Edge) → StageKeeps more n s x y hl hr out →
    IsResumedOf more (shards_in s) left right n saved x y hl hr out)

-- of whatever node it computes, the stage took up the lists, with sides that are closed up to u and v
abbrev pub Loads : Stage → Stage → List (List SavedEntry) → ℕ → ℕ → Type 0
Loads old new saved u v = (texts : List (List ℕ)) (capacity : ℕ) (left right : List CellKind) (n : Node) (x y : ℕ) →
    IsReady texts capacity left right n old x y →
    IsReady texts capacity left right n new u v × IsSavedOf (shards_in old) left right n saved u v
    × ((more : List (List ℕ)) (hl hr out : List Edge) → IsResumedOf more (shards_in old) left right n saved u v hl hr out →
    StageKeeps more n new u v hl hr out)

-- the lists are no state of whatever node it computes
abbrev pub IsNoState : Stage → List (List SavedEntry) → ℕ → ℕ → Type 0
IsNoState old saved u v = (texts : List (List ℕ)) (capacity : ℕ) (left right : List CellKind) (n : Node) (x y : ℕ) →
    IsReady texts capacity left right n old x y → IsSavedOf (shards_in old) left right n saved u v → ⊥

-- the closings of the sides of a node once the punctuation `last` was worked through, and 0 before the first one
abbrev pub left_reached : List Node → ℕ → Node → ℕ
left_reached nodes last n = reached last (left_closing nodes last n)

abbrev pub right_reached : List Node → ℕ → Node → ℕ
right_reached nodes last n = reached last (right_closing nodes last n)

-- the lists are stored as the rows of the parts of their nodes
abbrev pub AreStored : PlanParts → List (List (List SavedEntry)) → Type 0
AreStored plan saved = (i : ℕ) (n : Node) (e : List (List SavedEntry)) → slice_get plan.nodes i ≡ Some n →
    slice_get saved i ≡ Some e → All (All (IsStoredIn (node_rows plan i n))) e

-- the lists of each stage, which saved them, with no more entries than it keeps
pub record SavesAll (stages : List Stage) (saved : List (List (List SavedEntry))) : Type 0 where
  pub count : length saved ≡ length stages
  pub each : (i : ℕ) (s : Stage) (e : List (List SavedEntry)) → slice_get stages i ≡ Some s → slice_get saved i ≡ Some e →
      Saves s e × (total length e ≤ entries_in s) × StoresRows s e

-- each stage took up its lists
pub record LoadsAll (plan : PlanParts) (last : ℕ) (old new : List Stage) (saved : List (List (List SavedEntry))) : Type 0 where
  pub count : length new ≡ length old
  pub many : length saved ≡ length old
  pub each : (i : ℕ) (n : Node) (s t : Stage) (e : List (List SavedEntry)) → slice_get plan.nodes i ≡ Some n →
      slice_get old i ≡ Some s → slice_get new i ≡ Some t → slice_get saved i ≡ Some e →
      Loads s t e (left_reached plan.nodes last n) (right_reached plan.nodes last n)

-- some stage did not, since its lists are no state of it
pub record RefusesOne (plan : PlanParts) (last : ℕ) (old : List Stage) (saved : List (List (List SavedEntry))) : Type 0 where
  pub i : ℕ
  pub node : Node
  pub stage : Stage
  pub entries : List (List SavedEntry)
  pub there : slice_get plan.nodes i ≡ Some node
  pub here : slice_get old i ≡ Some stage
  pub saves : slice_get saved i ≡ Some entries
  pub none : IsNoState stage entries (left_reached plan.nodes last node) (right_reached plan.nodes last node)

-- the lists can be those of a plan at work, with so many workers, once the punctuation `last` was worked through: those of each node,
-- in order of number, a list for each of its shards. Of a source 0 and a Session 1 over it, with 2 workers: none, and two
pub record AreStates (workers : ℕ) (plan : PlanParts) (last : ℕ) (saved : List (List (List SavedEntry))) : Type 0 where
  pub count : length saved ≡ length plan.nodes
  pub each : (i : ℕ) (n : Node) (e : List (List SavedEntry)) → slice_get plan.nodes i ≡ Some n → slice_get saved i ≡ Some e →
      IsSavedOf (shards_of workers n) (left_kinds plan n) (right_kinds plan n) n e (left_reached plan.nodes last n)
      (right_reached plan.nodes last n)

-- and they are so where `given` are the edges that each stream gave so far, and `lists` those that each node answered
pub record FlowsResume (texts : List (List ℕ)) (last : ℕ) (given lists : ℕ → List Edge) (workers : ℕ) (plan : PlanParts)
    (saved : List (List (List SavedEntry))) : Type 0 where
  pub count : length saved ≡ length plan.nodes
  pub first : last ≡ 0 → (k : ℕ) → (given k ≡ []) × (lists k ≡ [])
  pub each : (i : ℕ) (n : Node) (e : List (List SavedEntry)) → slice_get plan.nodes i ≡ Some n → slice_get saved i ≡ Some e →
      IsResumedOf texts (shards_of workers n) (left_kinds plan n) (right_kinds plan n) n e (left_reached plan.nodes last n)
      (right_reached plan.nodes last n) (left_of [] given lists n) (right_of [] lists n) (lists i)
