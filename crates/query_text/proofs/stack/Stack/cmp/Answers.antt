use Rattle.std.proofs.Common.{[], ◌∷◌}
use Rattle.query_text.specs.declared.symbol.Symbol.TheVariants as Y
use Rattle.query_text.specs.Machine.{at_sum}
use Rattle.query_text.proofs.Sound.{sum_decides}
use Rattle.query_text.proofs.Did.{did_before}
use Rattle.query_text.proofs.stack.Stack.cmp.Goals as goal

pub returns : goal.returns
returns c = did_before (at_sum c.args.kind) (Y.Test ∷ []) c.sum.result _ _ _ (sum_decides c.args.kind) c.in_ok-put.ensures c.sum.ensures
