use Rattle.std.specs.Prelude.{◌≤◌}
use Rattle.std.proofs.Common.{arith}
use Rattle.std.proofs.lemmas.Bool.Decides.{nat_tests}
use Rattle.snapshot_agg.proofs.Instants.{later_late}
use Rattle.snapshot_agg.proofs.intervals.next_instant.Goals as goal

pub returns-then-lt-clause-ends : goal.returns-then-lt-clause-ends
returns-then-lt-clause-ends c =
    let low : c.in-Some.times.0 ≤ c.next_end-end.result = grind (arith, nat_tests, c.lt.ensures, c.if-lt.true) in
    later_late c.in-Some.times.0 c.next_end-end.result c.args.groups.now.rows.rows.ends low c.next_end-end.ensures.from
