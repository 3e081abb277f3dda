use Rattle.checkpoint.specs.Values.{IsDatum}
use Rattle.checkpoint.proofs.Valued.{all_more_at, all_of}
use Rattle.checkpoint.proofs.values.see_cells.Goals as goal

pub loop-datum-preserved : goal.loop-datum-preserved
loop-datum-preserved c = all_more_at IsDatum c.args.cells.now c.loop-datum.datum-index _ c.loop-datum-test.true c.see_datum.ensures c.loop-datum.invariant

pub returns : goal.returns
returns c = all_of IsDatum c.args.cells.now c.loop-datum.datum-index c.loop-datum-test.false c.loop-datum.invariant
