use Rattle.std.proofs.Common.{arith}
use Rattle.snapshot_agg.proofs.PuttingOff.{pushed}
use Rattle.snapshot_agg.proofs.row_queue.put.Goals as goal

pub returns-then-len-gt0-clause-ok : goal.returns-then-len-gt0-clause-ok
returns-then-len-gt0-clause-ok c = λ w. let a = c.in_ok-add.ensures.ok w in omega (arith, a)

pub returns-clause-ok : goal.returns-clause-ok
returns-clause-ok c = λ w.
    let a = pushed w c.args.line.now.items c.push_back.new.self.items (record { cells = c.args.cells; start = c.args.start }) c.in_ok-push_back.ensures.items in
    omega (arith, a)
