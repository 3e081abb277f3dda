use Rattle.std.proofs.Common.{◌∙◌, ◌+◌, Vec, Global, ap, sym, subst}
use Rattle.tw_rows.specs.declared.schema.ColumnDef.{ColumnDef}
use Rattle.query_plan.proofs.Columns.{IsJoined, joined_none, joined_more, joined_key, joined_all}
use Rattle.query_plan.proofs.schemas.join_schema.Goals as goal
use Rattle.query_plan.proofs.schemas.join_schema.Goals.{then-not-is_in+in_ok-clone+in_ok-push, else-not-is_in}

pub loop-i-init : goal.loop-i-init
loop-i-init c = joined_none c.args.left.now c.args.right.now c.args.right_key.now c.new-all.result.items _ (cc) c.in_ok-push_copies.ensures

pub loop-i-preserved : goal.loop-i-preserved
loop-i-preserved c = elim c.if-not-is_in.branch [
  | then-not-is_in+in_ok-clone+in_ok-push w ↦ joined_more c.args.left.now c.args.right.now c.args.right_key.now c.loop-i.i c.index-right-i.result w.in_ok-clone.field-0 c.loop-i.all.items _ c.loop-i.invariant c.loop-i-test.true c.index-right-i.is w.if-not-is_in.ensures w.in_ok-clone.ensures.cases (ap (λ (v : Vec ColumnDef Global). v.items) w.all-is ∙ w.in_ok-push.ensures.items)
  | else-not-is_in w ↦ subst (λ (v : Vec ColumnDef Global). IsJoined c.args.left.now c.args.right.now c.args.right_key.now (c.loop-i.i + 1) v.items) (sym w.all-is) (joined_key c.args.left.now c.args.right.now c.args.right_key.now c.loop-i.i c.index-right-i.result c.loop-i.all.items c.loop-i.invariant c.loop-i-test.true c.index-right-i.is w.if-not-is_in.ensures)
]

pub returns : goal.returns
returns c = c.from_vec.ensures ∙ joined_all c.args.left.now c.args.right.now c.args.right_key.now c.loop-i.i _ c.loop-i.invariant c.loop-i-test.false
