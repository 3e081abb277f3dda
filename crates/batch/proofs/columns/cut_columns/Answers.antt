use Rattle.std.proofs.Common.{◌∙◌, arith, refl}
use Rattle.batch.proofs.Bulk.{cut_first-holds, cut_first-next, cut_first-all}
use Rattle.batch.proofs.columns.cut_columns.Goals as goal

pub remove_first-requires : goal.remove_first-requires
remove_first-requires c = cut_first-holds c.args.count c.loop-c.c c.args.columns.now c.loop-c.columns c.loop-c.invariant c.loop-c-test.true c.index-columns-c.result c.requires

pub loop-c-preserved : goal.loop-c-preserved
loop-c-preserved c = cut_first-next c.args.count c.loop-c.c c.args.columns.now c.loop-c.columns c.loop-c.invariant c.loop-c-test.true _ _ c.index-columns-c.result c.remove_first.ensures refl

pub returns : goal.returns
returns c = c.loop-c.invariant ∙ cut_first-all c.args.count c.loop-c.c c.args.columns.now (omega (arith, c.loop-c-test.false))
