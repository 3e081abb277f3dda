use Rattle.tw_rows.specs.SameCells.{same_cells}
use Rattle.synopsis.specs.Kept.{since_at}
use Rattle.synopsis.specs.Queued.{queue_of}
use Rattle.synopsis.proofs.HeldRows.{few_started, map_started}
use Rattle.synopsis.proofs.held.put_start.Goals as goal

pub returns-then-goes_to_few-clause-since : goal.returns-then-goes_to_few-clause-since
returns-then-goes_to_few-clause-since c = λ q.
    few_started c.args.cells.now c.args.at c.args.held.now.few c.push.new.self (since_at c.args.held.now.starts) c.in_ok-push.ensures (c.goes_to_few.ensures c.if-goes_to_few.true) q

pub returns-clause-since : goal.returns-clause-since
returns-clause-since c = λ q.
    map_started (same_cells c.args.cells.now q) c.args.at (queue_of c.args.held.now.few q) (since_at c.args.held.now.starts q) (since_at c.open_row.new.starts q) (c.in_ok-open_row.ensures.since q)
