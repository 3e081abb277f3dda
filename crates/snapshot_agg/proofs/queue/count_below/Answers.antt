use Rattle.std.specs.Prelude.{◌<◌, ◌≤◌}
use Rattle.std.proofs.Common.{arith}
use Rattle.std.proofs.lemmas.Bool.Decides.{nat_tests}
use Rattle.snapshot_agg.proofs.Queueing.{below_next, later_from}
use Rattle.snapshot_agg.proofs.queue.count_below.Goals as goal

pub loop-i-preserved : goal.loop-i-preserved
loop-i-preserved c =
    let q = c.args.line.now in
    let e = c.len-i-end.ensures in
    let t = c.loop-i-test.true in
    let k = q.ok in
    let a = c.le.ensures in
    let b = c.if-le.false in
    let early : c.index.result.now.sync < c.args.to = grind (arith, nat_tests) in
    below_next c.args.to q.items c.loop-i.i c.index.result.now (omega (arith, e, t, k)) c.index.ensures early c.loop-i.invariant

pub returns-then-le-clause-from : goal.returns-then-le-clause-from
returns-then-le-clause-from c = λ rises.
    let q = c.args.line.now in
    let e = c.len-i-end.ensures in
    let t = c.loop-i-test.true in
    let k = q.ok in
    let a = c.le.ensures in
    let b = c.if-le.true in
    let late : c.args.to ≤ c.index.result.now.sync = grind (arith, nat_tests) in
    later_from c.args.to q.items c.loop-i.i c.index.result.now (omega (arith, e, t, k)) c.index.ensures late rises
