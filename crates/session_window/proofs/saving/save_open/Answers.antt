use Rattle.std.proofs.Common.{arith}
use Rattle.sweep_sides.proofs.KeptSides.{block_next, all_blocks}
use Rattle.session_window.proofs.saving.save_open.Goals as goal

pub loop-k-preserved : goal.loop-k-preserved
loop-k-preserved c =
    block_next c.args.part c.args.rows.now.blocks c.loop-k.k c.block.result.now c.args.saved.now c.loop-k.saved c.save_block.new.saved
    (let low = c.loop-k-test.true in let n = c.block_count-k-end.ensures.count in omega (arith, low, n)) c.block.ensures c.loop-k.invariant c.in_ok-save_block.ensures

pub returns : goal.returns
returns c =
    all_blocks c.args.part c.args.rows.now.rows c.args.rows.now.blocks c.loop-k.k c.args.saved.now c.loop-k.saved
    (let low = c.loop-k-test.false in let n = c.block_count-k-end.ensures.count in omega (arith, low, n)) c.block_count-k-end.ensures.rows c.loop-k.invariant
