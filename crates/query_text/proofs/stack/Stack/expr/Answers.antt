use Rattle.std.proofs.Common.{[], ◌∷◌}
use Rattle.query_text.specs.declared.symbol.Symbol.TheVariants as Y
use Rattle.query_text.specs.Machine.{at_conj}
use Rattle.query_text.proofs.Sound.{conj_decides}
use Rattle.query_text.proofs.Did.{did_before}
use Rattle.query_text.proofs.stack.Stack.expr.Goals as goal

pub returns : goal.returns
returns c = did_before (at_conj c.args.kind) (Y.Ors ∷ []) c.conj.result _ _ _ (conj_decides c.args.kind) c.in_ok-put.ensures c.conj.ensures
