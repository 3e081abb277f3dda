use Rattle.std.proofs.Common.{arith}
use Rattle.sweep_sides.proofs.saving.kept_count.Goals as goal

pub returns : goal.returns
returns c = omega (arith, c.saturating_add.ensures, c.len.ensures, c.len-2.ensures.len)
