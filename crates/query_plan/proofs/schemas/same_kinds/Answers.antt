use Rattle.std.proofs.Common.{◌∙◌, ap, sym}
use Rattle.tw_rows.specs.declared.schema.ColumnDef.{ColumnDef}
use Rattle.query_plan.specs.Types.{same_kind}
use Rattle.query_plan.proofs.ColumnFits.{pairs_none, pair_here, pair_past, pairs_all}
use Rattle.query_plan.proofs.schemas.same_kinds.Goals as goal

pub loop-i-init : goal.loop-i-init
loop-i-init c = pairs_none _ _ _ _ _ c.if-left-right.false

pub returns-then-not-same_kind : goal.returns-then-not-same_kind
returns-then-not-same_kind c = pair_here same_kind (λ (d : ColumnDef). d.kind) (λ (d : ColumnDef). d.kind) c.args.left.now c.args.right.now c.loop-i.i c.index-left-i.result c.index-right-i.result c.loop-i.invariant c.loop-i-test.true c.index-left-i.is c.index-right-i.is (c.if-not-same_kind.ensures ∙ ap (λ (d : ColumnDef). same_kind c.index-left-i.result.kind d.kind) (sym c.index-right-i.is))

pub loop-i-preserved : goal.loop-i-preserved
loop-i-preserved c = pair_past same_kind (λ (d : ColumnDef). d.kind) (λ (d : ColumnDef). d.kind) c.args.left.now c.args.right.now c.loop-i.i c.index-left-i.result c.index-right-i.result c.loop-i.invariant c.loop-i-test.true c.index-left-i.is c.index-right-i.is (c.if-not-same_kind.ensures ∙ ap (λ (d : ColumnDef). same_kind c.index-left-i.result.kind d.kind) (sym c.index-right-i.is))

pub returns : goal.returns
returns c = pairs_all same_kind (λ (d : ColumnDef). d.kind) (λ (d : ColumnDef). d.kind) c.args.left.now c.args.right.now c.loop-i.i c.loop-i.invariant c.loop-i-test.false
