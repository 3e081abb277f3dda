-- The rules of a stage, whatever its node.
use Rattle.std.proofs.Common.{◌≡◌, ℕ, zero, suc, false, None, List, [], ◌++◌, refl, sym, subst}
use Rattle.tw_rows.specs.Texts.{BeginsWith}
use Rattle.tw_rows.specs.declared.edge.Edge.{Edge}
use Rattle.tw_rows.specs.declared.kind.CellKind.{CellKind}
use Rattle.edge_history.specs.Order.{is_from, failing}
use Rattle.plan_model.specs.declared.node.Node.{Node}
use Rattle.plan_model.specs.IsPlan.{node_kinds}
use Rattle.plan_model.specs.Meaning.{node_events, node_closes}
use Rattle.plan_laws.specs.Undefined.{first_below}
use Rattle.plan_laws.specs.Places.{AreDistinct, EdgesArePlaced, read_of}
use Rattle.plan_laws.specs.Standing.{StandsRead}
use Rattle.plan_laws.proofs.Standing.{placed_longer, node_valid, no_history}
use Rattle.tw_rows.proofs.Knowing.{Known-refl}
use Rattle.plan_model.specs.declared.node.Node.TheVariants.{Source}
use Rattle.where_select.proofs.MadeEdges.{by_node, made_more, made_longer, made_later, made_stand}
use Rattle.where_select.proofs.Nodes.{stage-more}
use Rattle.dataflow.specs.declared.stage.Stage.{Stage}
use Rattle.dataflow.specs.declared.stage.Stage.TheVariants.{Rows, Life, Union, Extend, Join, Group, Anti, Session, Clip, Coalesce, Follow, Top}
use Rattle.plan_laws.proofs.Lives.{lives_longer, lives_rows}
use Rattle.plan_laws.proofs.Unions.{union_longer, union_rows}
use Rattle.plan_laws.proofs.Extending.{extended_longer, extended_rows}
use Rattle.std.specs.Prelude.{map}
use Rattle.tw_rows.specs.Kinds.{cell_kind_of}
use Rattle.sweep_sides.specs.Waiting.{queued}
use Rattle.snapshot_agg.proofs.Standing.{group_longer, group_stands}
use Rattle.session_window.proofs.Resuming.{session_tells}
use Rattle.sweep_sides.proofs.Kept.{kept_longer, kept_stands}
use Rattle.follow_op.proofs.Resuming.{follow_longer, follow_stands}
use Rattle.lifetime_ops.specs.Nodes.{node_of, known}
use Rattle.lifetime_ops.specs.Waiting.{edges_of_pending}
use Rattle.where_select.specs.Made.{IsMade}
use Rattle.where_select.specs.Stages.{IsStageOf}
use Rattle.where_select.specs.declared.row_stage.RowStage.{RowStage}
use Rattle.lifetime_ops.specs.Operating.{standing as life_standing}
use Rattle.lifetime_ops.specs.ExtendOperating.{standing as extend_standing}
use Rattle.union_clip.specs.UnionOperating.{standing as union_standing}
use Rattle.snapshot_agg.specs.Operating.{standing as group_standing, IsKept as IsGroupKept}
use Rattle.snapshot_agg.specs.declared.grouped.Grouped.{Grouped}
use Rattle.sweep_sides.specs.Operating.{standing as swept_standing, IsKept as IsSweptKept}
use Rattle.edge_stream.specs.Standing.{StandsFor}
use Rattle.shard_apply.specs.Whole.{standing_in}
use Rattle.shard_apply.proofs.WholeLaws.{grows_together, stands_together}
use Rattle.follow_op.specs.Operating.{standing as follow_standing}
use Rattle.dataflow.specs.Stages.{HasCome, MayComeUpTo, HasMade, IsReady, StageKeeps, first_undefined_read}
use Rattle.dataflow.proofs.Operators.{operator_stands}

pub came_longer : (texts more : List (List ℕ)) → BeginsWith more texts → (x : ℕ) (h : List Edge) → HasCome texts x h → HasCome more x h
came_longer texts more begins x h came = record {
  low = came.low;
  history = came.history;
  below = came.below;
  placed = placed_longer more texts begins h came.placed;
}

-- what holds of the operator of a Group holds of one that is a shard
group_grows : (o : Grouped) (more texts : List (List ℕ)) (hl hr out : List Edge) → BeginsWith more texts → IsGroupKept o texts hl hr out → IsGroupKept o more hl hr out
group_grows o more texts hl hr out begins kept =
    group_longer o.groups.key.items o.groups.aggs.items (map cell_kind_of o.left_kinds.items) more texts o.groups.rows.rows o.running o.waiting o.left_to hl hr out begins kept

shard_stands : (o : Grouped) (texts : List (List ℕ)) (hl hr out : List Edge) → AreDistinct texts → IsGroupKept o texts hl hr out → StandsFor (group_standing o) texts hl hr out
shard_stands o texts hl hr out distinct kept =
    group_stands 0 o.groups.key.items o.groups.aggs.items (map cell_kind_of o.left_kinds.items) texts o.groups.rows.rows o.running o.waiting o.left_to hl hr out distinct kept

-- a table that grows changes nothing
pub ready_longer : (texts more : List (List ℕ)) → BeginsWith more texts → (capacity : ℕ) (left right : List CellKind) (n : Node) (s : Stage) (x y : ℕ) →
    IsReady texts capacity left right n s x y → IsReady more capacity left right n s x y
ready_longer texts more begins capacity left right n (Rows s) x y ready = stage-more texts more begins capacity left n s ready
ready_longer texts more begins capacity left right n (Life o) x y ready = ready
ready_longer texts more begins capacity left right n (Union o) x y ready = ready
ready_longer texts more begins capacity left right n (Extend o) x y ready = ready
ready_longer texts more begins capacity left right n (Join o) x y ready = ready
ready_longer texts more begins capacity left right n (Group o) x y ready = ready
ready_longer texts more begins capacity left right n (Anti o) x y ready = ready
ready_longer texts more begins capacity left right n (Clip o) x y ready = ready
ready_longer texts more begins capacity left right n (Session o) x y ready = ready
ready_longer texts more begins capacity left right n (Coalesce o) x y ready = ready
ready_longer texts more begins capacity left right n (Follow o) x y ready = ready
ready_longer texts more begins capacity left right n (Top o) x y ready = ready

pub keeps_longer : (texts more : List (List ℕ)) → BeginsWith more texts → (capacity : ℕ) (left right : List CellKind) (n : Node) (s : Stage) (x y : ℕ) →
    IsReady texts capacity left right n s x y → (hl hr out : List Edge) → StageKeeps texts n s x y hl hr out → StageKeeps more n s x y hl hr out
keeps_longer texts more begins capacity left right n (Rows s) x y ready hl hr out kept = record {
  came = came_longer texts more begins x hl kept.came;
  made = made_longer texts capacity left n s ready more begins hl out kept.came.placed kept.made;
}
keeps_longer texts more begins capacity left right n (Life o) x y ready hl hr out kept = lives_longer (node_of o.change) more texts o.left_to o.right_to o.carried.edges hl hr out begins kept
keeps_longer texts more begins capacity left right n (Union o) x y ready hl hr out kept = union_longer more texts o.left_to o.right_to o.left.edges o.right.edges hl hr out begins kept
keeps_longer texts more begins capacity left right n (Extend o) x y ready hl hr out kept = extended_longer o.by more texts o.left_to o.right_to o.carried.edges (edges_of_pending o.ends) hl hr out begins kept
keeps_longer texts more begins capacity left right n (Join w) x y ready hl hr out kept = grows_together swept_standing IsSweptKept w (λ o. kept_longer o) more texts hl hr out begins kept
keeps_longer texts more begins capacity left right n (Group w) x y ready hl hr out kept = grows_together group_standing IsGroupKept w group_grows more texts hl hr out begins kept
keeps_longer texts more begins capacity left right n (Session w) x y ready hl hr out kept = grows_together swept_standing IsSweptKept w (λ o. kept_longer o) more texts hl hr out begins kept
keeps_longer texts more begins capacity left right n (Anti w) x y ready hl hr out kept = grows_together swept_standing IsSweptKept w (λ o. kept_longer o) more texts hl hr out begins kept
keeps_longer texts more begins capacity left right n (Clip w) x y ready hl hr out kept = grows_together swept_standing IsSweptKept w (λ o. kept_longer o) more texts hl hr out begins kept
keeps_longer texts more begins capacity left right n (Coalesce o) x y ready hl hr out kept = kept_longer o more texts hl hr out begins kept
keeps_longer texts more begins capacity left right n (Follow o) x y ready hl hr out kept =
    follow_longer o.sides.rows.left.key o.sides.rows.right_key.columns o.sides.rows.within (map cell_kind_of o.left_kinds.items) (map cell_kind_of o.right_kinds.items) more texts o.left_to o.right_to
    o.sides.rows.left.rows o.sides.rows.queue.items (queued o.sides.left_waiting) (queued o.sides.right_waiting) hl hr out begins kept
keeps_longer texts more begins capacity left right n (Top o) x y ready hl hr out kept = kept_longer o more texts hl hr out begins kept

-- what it answered stands for the node
pub stage_stands : (texts : List (List ℕ)) → AreDistinct texts → (capacity : ℕ) (left right : List CellKind) (n : Node) (s : Stage) (x y : ℕ) →
    IsReady texts capacity left right n s x y → (hl hr out : List Edge) → StageKeeps texts n s x y hl hr out →
    StandsRead texts (node_closes n x y) out (node_events n (read_of texts hl) (read_of texts hr))
stage_stands texts distinct capacity left right n (Rows s) x y ready hl hr out kept =
    made_stand texts capacity left n s ready distinct x y hl out (read_of texts hl) (read_of texts hr) kept.made
    (record { history = kept.came.history; below = kept.came.below; placed = kept.came.placed; known = Known-refl x (read_of texts hl) kept.came.low (node_valid texts (Source 0) hl [] kept.came.history no_history) })
stage_stands texts distinct capacity left right n (Life o) x y ready hl hr out kept =
    operator_stands capacity left right n (life_standing o) x y ready texts hl hr out (lives_rows (node_of o.change) texts o.left_to o.right_to o.carried.edges hl hr out (known o.change) distinct kept)
stage_stands texts distinct capacity left right n (Union o) x y ready hl hr out kept =
    operator_stands capacity left right n (union_standing o) x y ready texts hl hr out (union_rows texts o.left_to o.right_to o.left.edges o.right.edges hl hr out distinct kept)
stage_stands texts distinct capacity left right n (Extend o) x y ready hl hr out kept =
    operator_stands capacity left right n (extend_standing o) x y ready texts hl hr out (extended_rows o.by texts o.left_to o.right_to o.carried.edges (edges_of_pending o.ends) hl hr out distinct kept)
stage_stands texts distinct capacity left right n (Join w) x y ready hl hr out kept =
    operator_stands capacity left right n (standing_in swept_standing w) x y ready texts hl hr out (stands_together swept_standing IsSweptKept w texts hl hr out kept (λ o t l r e apart k. kept_stands o t l r e refl apart k.kept.kept.told k) distinct)
stage_stands texts distinct capacity left right n (Group w) x y ready hl hr out kept =
    operator_stands capacity left right n (standing_in group_standing w) x y ready texts hl hr out (stands_together group_standing IsGroupKept w texts hl hr out kept shard_stands distinct)
stage_stands texts distinct capacity left right n (Session w) x y ready hl hr out kept =
    operator_stands capacity left right n (standing_in swept_standing w) x y ready texts hl hr out (stands_together swept_standing IsSweptKept w texts hl hr out kept (λ o t l r e apart k. kept_stands o t l r e refl apart (session_tells o.sweep o.left_to l r e k.kept) k) distinct)
stage_stands texts distinct capacity left right n (Anti w) x y ready hl hr out kept =
    operator_stands capacity left right n (standing_in swept_standing w) x y ready texts hl hr out (stands_together swept_standing IsSweptKept w texts hl hr out kept (λ o t l r e apart k. kept_stands o t l r e refl apart k.kept.kept.told k) distinct)
stage_stands texts distinct capacity left right n (Clip w) x y ready hl hr out kept =
    operator_stands capacity left right n (standing_in swept_standing w) x y ready texts hl hr out (stands_together swept_standing IsSweptKept w texts hl hr out kept (λ o t l r e apart k. kept_stands o t l r e refl apart k.kept.kept.told k) distinct)
stage_stands texts distinct capacity left right n (Coalesce o) x y ready hl hr out kept =
    operator_stands capacity left right n (swept_standing o) x y ready texts hl hr out (kept_stands o texts hl hr out refl distinct kept.kept.kept.told kept)
stage_stands texts distinct capacity left right n (Follow o) x y ready hl hr out kept =
    operator_stands capacity left right n (follow_standing o) x y ready texts hl hr out (follow_stands o.sides.rows.left.key o.sides.rows.right_key.columns o.sides.rows.within (map cell_kind_of o.left_kinds.items) (map cell_kind_of o.right_kinds.items) texts o.left_to o.right_to
    o.sides.rows.left.rows o.sides.rows.queue.items (queued o.sides.left_waiting) (queued o.sides.right_waiting) hl hr out distinct kept)
stage_stands texts distinct capacity left right n (Top o) x y ready hl hr out kept =
    operator_stands capacity left right n (swept_standing o) x y ready texts hl hr out (kept_stands o texts hl hr out refl distinct kept.kept.kept.told kept)

-- and all places in it are in the table
pub keeps_placed : (texts : List (List ℕ)) → AreDistinct texts → (capacity : ℕ) (left right : List CellKind) (n : Node) (s : Stage) (x y : ℕ) → IsReady texts capacity left right n s x y →
    (hl hr out : List Edge) → StageKeeps texts n s x y hl hr out → EdgesArePlaced texts out
keeps_placed texts distinct capacity left right n s x y ready hl hr out kept = (stage_stands texts distinct capacity left right n s x y ready hl hr out kept).placed

-- of a Source, a Where or a Select: no instant is undefined
never : (c : ℕ) → first_below (λ t. false) c ≡ None
never zero = refl
never (suc c) = let before = never c in cc

module _ (texts : List (List ℕ)) (capacity : ℕ) (kinds : List CellKind) (n : Node) (s : RowStage) (is : IsStageOf texts capacity kinds n s) where
  pub rows_defined : (hl : List Edge) (c : ℕ) → first_undefined_read texts n hl c ≡ None
  rows_defined hl c = by_node texts capacity kinds n s is (λ m. first_undefined_read texts m hl c ≡ None) (λ stream. never c) (λ of test. never c) (λ of items. never c)

  -- and what is made of the new edges is kept
  pub rows_kept : (x y u : ℕ) (hl l out answer : List Edge) → HasMade texts n x hl out → MayComeUpTo texts x u hl l → IsMade texts n l answer →
      HasMade texts n u (hl ++ l) (out ++ answer) × (failing (is_from (node_closes n x y)) answer ≡ 0)
  rows_kept x y u hl l out answer kept may made = (
    record {
      came = record { low = may.low; history = may.may.history; below = may.below; placed = may.may.placed };
      made = made_more texts capacity kinds n s is hl out l answer kept.made made;
    },
    subst (λ c. failing (is_from c) answer ≡ 0) (sym (by_node texts capacity kinds n s is (λ m. node_closes m x y ≡ x) (λ stream. refl) (λ of test. refl) (λ of items. refl)))
        (made_later texts capacity kinds n s is l answer made x may.may.from),
  )

  -- and the answer is of the node's columns, whatever those of the right list, which it does not read
  pub rows_kinds : (left right : List CellKind) → node_kinds n left [] ≡ node_kinds n left right
  rows_kinds left right = by_node texts capacity kinds n s is (λ m. node_kinds m left [] ≡ node_kinds m left right) (λ stream. refl) (λ of test. refl) (λ of items. refl)
