use Rattle.std.proofs.Common.{[], ◌∷◌}
use Rattle.query_text.specs.declared.symbol.Symbol.TheVariants as Y
use Rattle.query_text.specs.Machine.{at_unary}
use Rattle.query_text.proofs.Sound.{unary_decides}
use Rattle.query_text.proofs.Did.{did_before}
use Rattle.query_text.proofs.stack.Stack.prod.Goals as goal

pub returns : goal.returns
returns c = did_before (at_unary c.args.kind) (Y.Factors ∷ []) c.unary.result _ _ _ (unary_decides c.args.kind) c.in_ok-put.ensures c.unary.ensures
