use Rattle.tw_rows.specs.SameCells.{same_cells}
use Rattle.synopsis.specs.Holding.{since_of}
use Rattle.synopsis.proofs.Ending.{times_more}
use Rattle.synopsis.proofs.HeldRows.{started_next}
use Rattle.synopsis.proofs.held.start_often.Goals as goal

pub loop-preserved : goal.loop-preserved
loop-preserved c =
    let k = c.args.cells.now in
    let old = since_of c.args.held.now in
    let now = since_of c.loop.held in
    let new = since_of c.start_one.new.held in
    record {
      since = λ q. started_next (same_cells k q) c.loop.counter c.args.at (old q) (now q) (new q) (c.loop.invariant.since q) (c.in_ok-start_one.ensures.since q);
      told = times_more c.start_one.new.answer.items c.loop.answer.items c.args.answer.now.items c.loop.counter _ c.in_ok-start_one.ensures.told c.loop.invariant.told;
      filled = λ h. c.start_one.ensures.filled (c.loop.invariant.filled h);
    }
