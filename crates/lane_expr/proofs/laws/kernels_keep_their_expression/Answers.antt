use Rattle.std.proofs.Common.{ℕ, List, ◌∙◌, ap, sym, subst}
use Rattle.tw_rows.specs.Texts.{BeginsWith}
use Rattle.plan_model.specs.declared.expr.ExprNode.{ExprNode}
use Rattle.lane_expr.specs.Steps.{expr_of, AreStepsPlaced}
use Rattle.lane_expr.specs.Kernels.{Program, IsKernelOf}
use Rattle.lane_expr.proofs.Typing.{expr_of-more, AreStepsPlaced-more}
use Rattle.lane_expr.proofs.laws.kernels_keep_their_expression.Goals as goal

keeps : (texts more : List (List ℕ)) (expr : List ExprNode) (k : Program) → BeginsWith more texts → IsKernelOf texts expr k → IsKernelOf more expr k
keeps texts more expr k begins is = record {
  same = ap (λ t. expr_of t k.steps) begins.1 ∙ expr_of-more texts begins.0 k.steps is.placed ∙ is.same;
  placed = subst (λ t. AreStepsPlaced t k.steps) (sym begins.1) (AreStepsPlaced-more texts begins.0 k.steps is.placed);
}

pub returns : goal.returns
returns c = keeps
