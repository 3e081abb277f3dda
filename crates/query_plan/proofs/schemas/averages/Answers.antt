use Rattle.std.proofs.Common.{ℕ, ◌∙◌, ◌+◌, Vec, Global, ap, sym, subst}
use Rattle.query_plan.proofs.Columns.{AreAveraged, averaged_none, averaged_more, averaged_past, averaged_all}
use Rattle.query_plan.proofs.schemas.averages.Goals as goal
use Rattle.query_plan.proofs.schemas.averages.Goals.{then-is_average+in_ok-push, else-is_average}

pub loop-i-init : goal.loop-i-init
loop-i-init c = averaged_none _ _ _ (cc)

pub loop-i-preserved : goal.loop-i-preserved
loop-i-preserved c = elim c.if-is_average.branch [
  | then-is_average+in_ok-push w ↦ averaged_more c.args.first c.args.aggs.now c.loop-i.i c.index-aggs-i.result c.loop-i.columns.items _ c.loop-i.invariant c.loop-i-test.true c.index-aggs-i.is w.if-is_average.ensures (ap (λ (v : Vec ℕ Global). v.items) w.columns-is ∙ w.in_ok-push.ensures.items)
  | else-is_average w ↦ subst (λ (v : Vec ℕ Global). AreAveraged c.args.first c.args.aggs.now (c.loop-i.i + 1) v.items) (sym w.columns-is) (averaged_past c.args.first c.args.aggs.now c.loop-i.i c.index-aggs-i.result c.loop-i.columns.items c.loop-i.invariant c.loop-i-test.true c.index-aggs-i.is w.if-is_average.ensures)
]

pub returns : goal.returns
returns c = averaged_all c.args.first c.args.aggs.now c.loop-i.i _ c.loop-i.invariant c.loop-i-test.false
