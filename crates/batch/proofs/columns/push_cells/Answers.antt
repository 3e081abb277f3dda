use Rattle.std.proofs.Common.{◌∙◌, pos, refl, arith}
use Rattle.tw_rows.specs.declared.cells.Datum.TheVariants.{Int}
use Rattle.batch.proofs.Pushing.{pushed_first-kind, pushed_first-room, pushed_first-next, pushed_first-all}
use Rattle.batch.proofs.columns.push_cells.Goals as goal

pub push-requires-clause-kind : goal.push-requires-clause-kind
push-requires-clause-kind c = pushed_first-kind c.loop-c.c _ _ _ c.loop-c.invariant c.loop-c-test.true c.requires.kinds c.index-columns-c.result (Int (pos 0))

pub push-requires-clause-room : goal.push-requires-clause-room
push-requires-clause-room c = pushed_first-room c.loop-c.c _ _ _ c.loop-c.invariant c.loop-c-test.true c.requires.kinds c.index-columns-c.result c.requires.room

pub loop-c-preserved : goal.loop-c-preserved
loop-c-preserved c = pushed_first-next c.loop-c.c _ _ _ c.loop-c.invariant c.loop-c-test.true c.requires.kinds _ _ c.index-columns-c.result (Int (pos 0)) c.push.ensures refl

pub returns : goal.returns
returns c = c.loop-c.invariant ∙ pushed_first-all c.loop-c.c c.args.columns.now c.args.cells.now (omega (arith, c.loop-c-test.false))
