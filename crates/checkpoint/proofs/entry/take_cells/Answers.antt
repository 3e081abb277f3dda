use Rattle.checkpoint.proofs.Cells.{none_left}
use Rattle.checkpoint.proofs.entry.take_cells.Goals as goal

pub returns-in_default : goal.returns-in_default
returns-in_default c = none_left _ c.args.kinds.now c.loop-kind.kind-index _ _ c.loop-kind.invariant c.loop-kind-test.true c.in_default.ensures.none.0
