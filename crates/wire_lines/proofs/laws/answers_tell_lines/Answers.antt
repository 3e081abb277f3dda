use Rattle.std.proofs.Common.{refl}
use Rattle.wire_lines.proofs.CutsFacts.{tells_of}
use Rattle.wire_lines.proofs.laws.answers_tell_lines.Goals as goal

pub returns : goal.returns
returns c = λ bytes cutter given cuts. tells_of bytes cutter given _ refl cuts
