use Rattle.std.proofs.Common.{refl}
use Rattle.sweep_sides.proofs.KeptSides.{row_next}
use Rattle.sweep_sides.proofs.saving.save_block.Goals as goal

pub loop-row-preserved : goal.loop-row-preserved
loop-row-preserved c =
    row_next c.args.part c.args.rows.now c.loop-row.row-index c.row-item.result c.bounds.result.1 c.row-item.result.cells c.args.saved.now c.loop-row.saved c.push_cells.new.self
    c.loop-row-test.true c.row-item.is c.bounds.ensures.infinity refl c.in_ok-push_cells.ensures.ok c.loop-row.invariant
