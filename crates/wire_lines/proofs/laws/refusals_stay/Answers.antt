use Rattle.std.proofs.Common.{refl}
use Rattle.wire_lines.proofs.CutsFacts.{next-again}
use Rattle.wire_lines.proofs.laws.refusals_stay.Goals as goal

pub returns : goal.returns
returns c = λ cutter refused. next-again cutter _ refl refused
