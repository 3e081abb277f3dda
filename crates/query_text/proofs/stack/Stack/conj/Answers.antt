use Rattle.std.proofs.Common.{[], ◌∷◌}
use Rattle.query_text.specs.declared.symbol.Symbol.TheVariants as Y
use Rattle.query_text.specs.Machine.{at_neg}
use Rattle.query_text.proofs.Sound.{neg_decides}
use Rattle.query_text.proofs.Did.{did_before}
use Rattle.query_text.proofs.stack.Stack.conj.Goals as goal

pub returns : goal.returns
returns c = did_before (at_neg c.args.kind) (Y.Ands ∷ []) c.neg.result _ _ _ (neg_decides c.args.kind) c.in_ok-put.ensures c.neg.ensures
