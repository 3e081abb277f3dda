use Rattle.std.proofs.Common.{arith}
use Rattle.union_clip.proofs.sides.ClipSidesSweep.held.Goals as goal

pub returns : goal.returns
returns c = omega (arith, c.kept_count-left.ensures, c.len.ensures.len, c.saturating_add.ensures)
