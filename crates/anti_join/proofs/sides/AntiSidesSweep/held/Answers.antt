use Rattle.std.proofs.Common.{arith}
use Rattle.anti_join.proofs.sides.AntiSidesSweep.held.Goals as goal

pub returns : goal.returns
returns c = omega (arith, c.kept_count-left.ensures, c.kept_count-right.ensures, c.saturating_add-rows.ensures, c.len-times.ensures.count, c.saturating_add.ensures)
