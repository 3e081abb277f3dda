use Rattle.std.proofs.Common.{[], ◌∷◌}
use Rattle.query_text.specs.declared.symbol.Symbol.TheVariants as Y
use Rattle.query_text.specs.Machine.{at_prod}
use Rattle.query_text.proofs.Sound.{prod_decides}
use Rattle.query_text.proofs.Did.{did_before}
use Rattle.query_text.proofs.stack.Stack.sum.Goals as goal

pub returns : goal.returns
returns c = did_before (at_prod c.args.kind) (Y.Terms ∷ []) c.prod.result _ _ _ (prod_decides c.args.kind) c.in_ok-put.ensures c.prod.ensures
