use Rattle.std.proofs.Common.{◌∙◌, ℕ, get_or, ap, arith}
use Rattle.std.proofs.lemmas.List.{get_or_default}
use Rattle.tw_rows.specs.declared.kind.Kind.{Kind}
use Rattle.query_plan.specs.Types.{same_kind}
use Rattle.query_plan.specs.Schemas.{column_at}
use Rattle.query_plan.proofs.ColumnFits.{pairs_none, pair_here, pair_past, pairs_all}
use Rattle.query_plan.proofs.schemas.keys_alike.Goals as goal

pub loop-i-init : goal.loop-i-init
loop-i-init c = pairs_none _ _ _ _ _ c.if-left_key-right_key.false

pub returns-then-not-same_kind : goal.returns-then-not-same_kind
returns-then-not-same_kind c = pair_here same_kind (λ (k : ℕ). (column_at c.args.left.now k).kind) (λ (k : ℕ). (column_at c.args.right.now k).kind) c.args.left_key.now c.args.right_key.now c.loop-i.i (get_or c.args.left_key.now c.loop-i.i 0) (get_or c.args.right_key.now c.loop-i.i 0) c.loop-i.invariant c.loop-i-test.true (get_or_default c.args.left_key.now c.loop-i.i 0 _ c.loop-i-test.true) (get_or_default c.args.right_key.now c.loop-i.i 0 _ (let e = c.loop-i.invariant.even in omega arith)) (c.if-not-same_kind.ensures ∙ ap (λ (k : Kind). same_kind k c.kind_at-in-loop-i.result) c.kind_at.ensures ∙ ap (λ (k : Kind). same_kind (column_at c.args.left.now (get_or c.args.left_key.now c.loop-i.i 0)).kind k) c.kind_at-in-loop-i.ensures)

pub loop-i-preserved : goal.loop-i-preserved
loop-i-preserved c = pair_past same_kind (λ (k : ℕ). (column_at c.args.left.now k).kind) (λ (k : ℕ). (column_at c.args.right.now k).kind) c.args.left_key.now c.args.right_key.now c.loop-i.i (get_or c.args.left_key.now c.loop-i.i 0) (get_or c.args.right_key.now c.loop-i.i 0) c.loop-i.invariant c.loop-i-test.true (get_or_default c.args.left_key.now c.loop-i.i 0 _ c.loop-i-test.true) (get_or_default c.args.right_key.now c.loop-i.i 0 _ (let e = c.loop-i.invariant.even in omega arith)) (c.if-not-same_kind.ensures ∙ ap (λ (k : Kind). same_kind k c.kind_at-in-loop-i.result) c.kind_at.ensures ∙ ap (λ (k : Kind). same_kind (column_at c.args.left.now (get_or c.args.left_key.now c.loop-i.i 0)).kind k) c.kind_at-in-loop-i.ensures)

pub returns : goal.returns
returns c = pairs_all same_kind (λ (k : ℕ). (column_at c.args.left.now k).kind) (λ (k : ℕ). (column_at c.args.right.now k).kind) c.args.left_key.now c.args.right_key.now c.loop-i.i c.loop-i.invariant c.loop-i-test.false
