-- Stages that are operators: what a step of any operator tells is what a step of a stage owes.
use Rattle.std.specs.Prelude.{◌≡◌, ◌≤◌, ◌-◌, ◌^◌, ℕ, min, Option, Some, None, List, Result, IfOk, IfErr, OnOk}
use Rattle.std.proofs.Common.{sym, subst, arith}
use Rattle.std.proofs.lemmas.Result.{IfOk-weaker, IfErr-weaker, on_ok_weaker}
use Rattle.tw_rows.specs.declared.edge.Edge.{Edge}
use Rattle.tw_rows.specs.declared.kind.CellKind.{CellKind}
use Rattle.edge_stream.specs.Listing.{EdgeListView, cells_of}
use Rattle.edge_stream.specs.declared.saved.StepFault.{StepFault}
use Rattle.edge_stream.specs.declared.saved.StepFault.TheVariants.{Overflow}
use Rattle.plan_model.specs.declared.node.Node.{Node}
use Rattle.edge_stream.specs.Standing.{Standing, Keeping, may_keep}
use Rattle.lifetime_ops.specs.Operating.{standing as life_standing, IsKept as IsLifeKept}
use Rattle.lifetime_ops.specs.ExtendOperating.{standing as extend_standing, IsKept as IsExtendKept}
use Rattle.union_clip.specs.UnionOperating.{standing as union_standing, IsKept as IsUnionKept}
use Rattle.snapshot_agg.specs.Operating.{standing as group_standing, IsKept as IsGroupKept}
use Rattle.dataflow.specs.declared.stage.Stage.{Stage}
use Rattle.sweep_sides.specs.Operating.{standing as swept_standing, IsKept as IsSweptKept}
use Rattle.follow_op.specs.Operating.{standing as follow_standing, IsKept as IsFollowKept}
use Rattle.shard_apply.specs.Whole.{standing_in, ShardsKeep}
use Rattle.dataflow.specs.declared.stage.Stage.TheVariants.{Life, Union, Extend, Join, Group, Anti, Session, Clip, Coalesce, Follow, Top}
use Rattle.dataflow.proofs.Operators.{operator_held}
use Rattle.dataflow.specs.Operating.{CanOperate, StaysOperating, KeepsOperating, OperatesUndefinedAt}
use Rattle.dataflow.specs.Stages.{IsReady, StageKeeps, StaysReady, KeepsOn, IsUndefinedAt, KeepsAtMost, entries_in}

-- stages of this kind are ready and keep as their operators are and do
pub record IsVariant {O : Type 0} (stage : O → Stage) (standing : O → Standing) (keeping : O → Keeping) : Type 0 where
  pub can : (texts : List (List ℕ)) (capacity : ℕ) (left right : List CellKind) (n : Node) (o : O) (x y : ℕ) → IsReady texts capacity left right n (stage o) x y → CanOperate capacity left right n (standing o) x y
  pub ready : (texts : List (List ℕ)) (capacity : ℕ) (left right : List CellKind) (n : Node) (o : O) (x y : ℕ) → CanOperate capacity left right n (standing o) x y → IsReady texts capacity left right n (stage o) x y
  pub kept : (texts : List (List ℕ)) (n : Node) (o : O) (x y : ℕ) (hl hr out : List Edge) → StageKeeps texts n (stage o) x y hl hr out → keeping o texts hl hr out
  pub keeps : (texts : List (List ℕ)) (n : Node) (o : O) (x y : ℕ) (hl hr out : List Edge) → keeping o texts hl hr out → StageKeeps texts n (stage o) x y hl hr out

module _ {O : Type 0} (stage : O → Stage) (standing : O → Standing) (keeping : O → Keeping) (is : IsVariant stage standing keeping)
    (texts : List (List ℕ)) (left right : EdgeListView) (s : Stage) (old new : O) (at : s ≡ stage old) (u v : ℕ) (r : Result EdgeListView StepFault) where
  pub variant_ready : OnOk r (StaysOperating left right (standing old) (standing new) u v) → IfOk r (λ answer. StaysReady texts left right s (stage new) u v)
  variant_ready told = subst (λ z. IfOk r (λ answer. StaysReady texts left right z (stage new) u v)) (sym at)
      (on_ok_weaker r (λ stays. record { stays = λ n x y ready. is.ready texts left.capacity (cells_of left) (cells_of right) n new u v (stays n x y (is.can texts left.capacity (cells_of left) (cells_of right) n old x y ready)) }) told)

  pub variant_kept : IfOk r (KeepsOperating left right (standing old) (keeping old) (keeping new) u v) → IfOk r (λ answer. KeepsOn texts left right s (stage new) u v answer)
  variant_kept told = subst (λ z. IfOk r (λ answer. KeepsOn texts left right z (stage new) u v answer)) (sym at)
      (IfOk-weaker r (KeepsOperating left right (standing old) (keeping old) (keeping new) u v) (λ answer. KeepsOn texts left right (stage old) (stage new) u v answer)
      (λ answer keeps n x y hl hr out t.
      let now = keeps texts n x y hl hr out (is.can texts left.capacity (cells_of left) (cells_of right) n old x y t.ready) (is.kept texts n old x y hl hr out t.kept) t.on_left.may t.on_right.may in
      (is.keeps texts n new u v _ _ _ now.0, now.1))
      told)

  undefined_at : (found : Option ℕ) → OperatesUndefinedAt left right (standing old) (keeping old) u v found → IsUndefinedAt texts left right (stage old) u v found
  undefined_at found told n x y hl hr out distinct t =
      told texts n x y hl hr out distinct (is.can texts left.capacity (cells_of left) (cells_of right) n old x y t.ready) (is.kept texts n old x y hl hr out t.kept) t.on_left.may

  pub variant_defined : OnOk r (OperatesUndefinedAt left right (standing old) (keeping old) u v None) → OnOk r (IsUndefinedAt texts left right s u v None)
  variant_defined told = subst (λ z. OnOk r (IsUndefinedAt texts left right z u v None)) (sym at) (on_ok_weaker r (undefined_at None) told)

  pub variant_overflow : IfErr r (λ fault. (time : ℕ) → fault ≡ Overflow time → OperatesUndefinedAt left right (standing old) (keeping old) u v (Some time)) →
      IfErr r (λ fault. (time : ℕ) → fault ≡ Overflow time → IsUndefinedAt texts left right s u v (Some time))
  variant_overflow told = subst (λ z. IfErr r (λ fault. (time : ℕ) → fault ≡ Overflow time → IsUndefinedAt texts left right z u v (Some time))) (sym at)
      (IfErr-weaker r (λ fault. (time : ℕ) → fault ≡ Overflow time → OperatesUndefinedAt left right (standing old) (keeping old) u v (Some time)) (λ fault. (time : ℕ) → fault ≡ Overflow time → IsUndefinedAt texts left right (stage old) u v (Some time))
      (λ fault undefined time e. undefined_at (Some time) (undefined time e)) told)

-- and it keeps no more entries than its node may
pub variant_held : {O : Type 0} (stage : O → Stage) (standing : O → Standing) (keeping : O → Keeping) → IsVariant stage standing keeping → (s : Stage) (o : O) → s ≡ stage o → (count : ℕ) →
    ((texts : List (List ℕ)) (hl hr out : List Edge) → keeping o texts hl hr out → count ≤ may_keep (standing o).node (standing o).left_closed (standing o).right_closed hl hr) → KeepsAtMost count s
variant_held stage standing keeping is s o at count most = subst (KeepsAtMost count) (sym at)
    (λ texts capacity left right n x y hl hr out ready kept.
    operator_held capacity left right n (standing o) x y (is.can texts capacity left right n o x y ready) count hl hr (most texts hl hr out (is.kept texts n o x y hl hr out kept)))

-- nor where the number is told as far as there is room for it
pub held_few : (s : Stage) (count : ℕ) → count ≡ min (entries_in s) (2 ^ 64 - 1) → KeepsAtMost (entries_in s) s → KeepsAtMost count s
held_few s count is most texts capacity left right n x y hl hr out ready kept = (let m = most texts capacity left right n x y hl hr out ready kept in omega (arith, is, m))

-- the operators that are stages
pub life_variant : IsVariant Life life_standing IsLifeKept
life_variant = record { can = λ texts capacity left right n o x y h. h; ready = λ texts capacity left right n o x y h. h; kept = λ texts n o x y hl hr out h. h; keeps = λ texts n o x y hl hr out h. h }

pub union_variant : IsVariant Union union_standing IsUnionKept
union_variant = record { can = λ texts capacity left right n o x y h. h; ready = λ texts capacity left right n o x y h. h; kept = λ texts n o x y hl hr out h. h; keeps = λ texts n o x y hl hr out h. h }

pub extend_variant : IsVariant Extend extend_standing IsExtendKept
extend_variant = record { can = λ texts capacity left right n o x y h. h; ready = λ texts capacity left right n o x y h. h; kept = λ texts n o x y hl hr out h. h; keeps = λ texts n o x y hl hr out h. h }

pub join_variant : IsVariant Join (standing_in swept_standing) (ShardsKeep swept_standing IsSweptKept)
join_variant = record { can = λ texts capacity left right n o x y h. h; ready = λ texts capacity left right n o x y h. h; kept = λ texts n o x y hl hr out h. h; keeps = λ texts n o x y hl hr out h. h }

pub group_variant : IsVariant Group (standing_in group_standing) (ShardsKeep group_standing IsGroupKept)
group_variant = record { can = λ texts capacity left right n o x y h. h; ready = λ texts capacity left right n o x y h. h; kept = λ texts n o x y hl hr out h. h; keeps = λ texts n o x y hl hr out h. h }

pub anti_variant : IsVariant Anti (standing_in swept_standing) (ShardsKeep swept_standing IsSweptKept)
anti_variant = record { can = λ texts capacity left right n o x y h. h; ready = λ texts capacity left right n o x y h. h; kept = λ texts n o x y hl hr out h. h; keeps = λ texts n o x y hl hr out h. h }

pub session_variant : IsVariant Session (standing_in swept_standing) (ShardsKeep swept_standing IsSweptKept)
session_variant = record { can = λ texts capacity left right n o x y h. h; ready = λ texts capacity left right n o x y h. h; kept = λ texts n o x y hl hr out h. h; keeps = λ texts n o x y hl hr out h. h }

pub clip_variant : IsVariant Clip (standing_in swept_standing) (ShardsKeep swept_standing IsSweptKept)
clip_variant = record { can = λ texts capacity left right n o x y h. h; ready = λ texts capacity left right n o x y h. h; kept = λ texts n o x y hl hr out h. h; keeps = λ texts n o x y hl hr out h. h }

pub coalesce_variant : IsVariant Coalesce swept_standing IsSweptKept
coalesce_variant = record { can = λ texts capacity left right n o x y h. h; ready = λ texts capacity left right n o x y h. h; kept = λ texts n o x y hl hr out h. h; keeps = λ texts n o x y hl hr out h. h }

pub follow_variant : IsVariant Follow follow_standing IsFollowKept
follow_variant = record { can = λ texts capacity left right n o x y h. h; ready = λ texts capacity left right n o x y h. h; kept = λ texts n o x y hl hr out h. h; keeps = λ texts n o x y hl hr out h. h }

pub top_variant : IsVariant Top swept_standing IsSweptKept
top_variant = record { can = λ texts capacity left right n o x y h. h; ready = λ texts capacity left right n o x y h. h; kept = λ texts n o x y hl hr out h. h; keeps = λ texts n o x y hl hr out h. h }
