use Rattle.sweep_sides.proofs.Paired.{pair_next_at}
use Rattle.sweep_sides.proofs.pairs.pair_cells.Goals as goal

pub loop-i-preserved : goal.loop-i-preserved
loop-i-preserved c =
    pair_next_at c.args.right_key.now c.args.left.now c.args.right.now c.loop-i.data.items c.push_outside.new.row.items c.loop-i.i _ c.loop-i-test.true c.loop-i.invariant c.in_ok-push_outside.ensures
