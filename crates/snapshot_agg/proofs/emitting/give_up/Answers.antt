use Rattle.std.proofs.Common.{arith}
use Rattle.snapshot_agg.proofs.emitting.give_up.Goals as goal

pub returns-clause-few : goal.returns-clause-few
returns-clause-few c = let n = c.clear.ensures.len in record { keys = omega (arith, n); once = c.len.ensures.unique }
