use Rattle.std.specs.Prelude.{length}
use Rattle.std.proofs.Common.{ap, arith}
use Rattle.snapshot_agg.proofs.Queueing.{length_both}
use Rattle.snapshot_agg.proofs.queue.Queue.len.Goals as goal

pub returns : goal.returns
returns c =
    let q = c.self.inside in
    let v = ap length c.self.view_is in
    let both = length_both q.others q.line.items in
    let k = q.line.ok in
    omega (arith, v, both, k, c.len-others.ensures.len, c.len.ensures, c.saturating_add.ensures)
