use Rattle.synopsis.specs.Kept.{since_at}
use Rattle.synopsis.specs.Queued.{queue_of}
use Rattle.synopsis.proofs.HeldRows.{few_ended, few_first, map_ended, map_first}
use Rattle.synopsis.proofs.held.take_start.Goals as goal

pub returns-in-Some-clause-first : goal.returns-in-Some-clause-first
returns-in-Some-clause-first c = few_first (queue_of c.args.held.now.few c.args.cells.now) (since_at c.args.held.now.starts c.args.cells.now) c.in-Some.start c.in-Some.ensures.first

pub returns-in-Some-clause-since : goal.returns-in-Some-clause-since
returns-in-Some-clause-since c = λ q.
    few_ended c.args.cells.now (since_at c.args.held.now.starts) c.args.held.now.few c.take.new.self c.in-Some.start c.in-Some.ensures.first c.in-Some.ensures.rest q

pub returns-clause-first : goal.returns-clause-first
returns-clause-first c = map_first c.in_ok-start.start (queue_of c.args.held.now.few c.args.cells.now) (since_at c.args.held.now.starts c.args.cells.now) c.in_default.ensures.none c.in_ok-start.ensures.first

pub returns-clause-since : goal.returns-clause-since
returns-clause-since c = λ q.
    map_ended c.args.cells.now c.args.held.now.few c.take.new.self (since_at c.args.held.now.starts) (since_at c.take_first.new.starts) c.in_default.ensures.kept c.in_default.ensures.none c.in_ok-start.ensures.since q
