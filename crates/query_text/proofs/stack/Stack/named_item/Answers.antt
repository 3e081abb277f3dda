use Rattle.std.proofs.Common.{[], ◌∷◌}
use Rattle.query_text.specs.declared.word.Sign.TheVariants as S
use Rattle.query_text.specs.declared.symbol.Symbol.TheVariants as Y
use Rattle.query_text.specs.Machine.{at_expr}
use Rattle.query_text.proofs.Sound.{expr_decides}
use Rattle.query_text.proofs.Did.{did_before}
use Rattle.query_text.proofs.stack.Stack.named_item.Goals as goal

pub returns : goal.returns
returns c = did_before (at_expr c.args.kind) (Y.Word S.As ∷ Y.Named ∷ []) c.expr.result _ _ _ (expr_decides c.args.kind) c.in_ok-put.ensures c.expr.ensures
