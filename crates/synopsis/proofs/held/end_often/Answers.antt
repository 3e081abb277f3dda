use Rattle.tw_rows.specs.SameCells.{same_cells}
use Rattle.synopsis.specs.Holding.{since_of}
use Rattle.synopsis.proofs.HeldRows.{ended_next, told_next}
use Rattle.synopsis.proofs.held.end_often.Goals as goal

pub loop-preserved : goal.loop-preserved
loop-preserved c =
    let k = c.args.cells.now in
    let old = since_of c.args.held.now in
    let now = since_of c.loop.held in
    let new = since_of c.end_one.new.held in
    record {
      since = λ q. ended_next (same_cells k q) c.loop.counter (old q) (now q) (new q) (c.loop.invariant.since q) (c.in_ok-end_one.ensures.since q);
      told = told_next c.args.at c.loop.counter k (old k) (now k) c.args.answer.now.items c.loop.answer.items c.end_one.new.answer.items (c.loop.invariant.since k) c.loop.invariant.told c.in_ok-end_one.ensures.told;
      filled = λ h. c.end_one.ensures.filled (c.loop.invariant.filled h);
    }
