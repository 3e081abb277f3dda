use Rattle.std.proofs.Common.{◌∙◌, arith, refl}
use Rattle.batch.proofs.Pushing.{cleared_first-all, cleared_first-next}
use Rattle.batch.proofs.columns.clear_columns.Goals as goal

pub loop-c-preserved : goal.loop-c-preserved
loop-c-preserved c = cleared_first-next c.loop-c.c _ _ c.loop-c.invariant c.loop-c-test.true _ _ c.index-columns-c.result c.clear.ensures refl

pub returns : goal.returns
returns c = c.loop-c.invariant ∙ cleared_first-all c.loop-c.c c.args.columns.now (omega (arith, c.loop-c-test.false))
