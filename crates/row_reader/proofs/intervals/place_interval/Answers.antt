use Rattle.std.proofs.Common.{sym}
use Rattle.row_reader.proofs.OnePass.{interval_ok, interval_memory}
use Rattle.row_reader.proofs.intervals.place_interval.Goals as goal

pub returns-then-found-clause-entry : goal.returns-then-found-clause-entry
returns-then-found-clause-entry c = λ columns fields h known.
    let all = known c.if-found.true in
    interval_ok _ _ c.args.stream columns fields _ _ _ _ _ h all.read all.placed (sym all.table)

pub returns-in-Ok-clause-entry : goal.returns-in-Ok-clause-entry
returns-in-Ok-clause-entry c = λ columns fields h known. interval_ok _ _ c.args.stream columns fields _ _ _ _ _ h c.in-Ok.ensures.read c.in-Ok.ensures.placed c.in-Ok.ensures.table

pub returns-in-Err-clause-entry : goal.returns-in-Err-clause-entry
returns-in-Err-clause-entry c = λ columns fields h known. interval_memory _ _ _ c.args.stream columns fields _ _ _ _ h c.in-Err.ensures.err
